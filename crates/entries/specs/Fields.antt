-- Tests that look only at which field a text has for each metavariable: "8 (value ..), 9 (body ..), 11 (open ..)".
--   unsaid           the text has no field for a metavariable
--   says_value       it has one, a value; says_body, says_open: a body, or that the metavariable is open
--   known_at          a metavariable that has a field occurs: "A wrong .. metavariable is a no"
--   kinds_at          "each function metavariable a body, and each other metavariable an expression or nothing (open)"
--   open_unneeded_at   "an open metavariable stands only in arguments of functions whose body has no hole": it is not in the set of those
--                    that need a value
--   unneeded_open_at   "a metavariable that stands only in such arguments is open"
use Rattle.std.specs.Prelude.{ℕ, Bool, true, false, ◌&&◌, ◌||◌, not, Option, Some, None}
use Rattle.meaning.specs.Limits.{metavariable_count}
use Rattle.meaning.specs.Basics.{every, up_to}
use Rattle.metavariables.specs.declared.Occurring.{Occurring}
use Rattle.metavariables.specs.Survey.{has}
use Rattle.said.specs.Said.{field_of}
use Rattle.said.specs.declared.Field.{Field}
use Rattle.said.specs.declared.Field.TheVariants.{Value, Body, Open}
use Rattle.said.specs.declared.Said.{Said}

abbrev pub unsaid : Option Field → Bool
unsaid None = true
unsaid (Some f) = false

abbrev pub says_value : Option Field → Bool
says_value None = false
says_value (Some (Value n)) = true
says_value (Some (Body n)) = false
says_value (Some Open) = false

abbrev pub says_body : Option Field → Bool
says_body None = false
says_body (Some (Value n)) = false
says_body (Some (Body n)) = true
says_body (Some Open) = false

abbrev pub says_open : Option Field → Bool
says_open None = false
says_open (Some (Value n)) = false
says_open (Some (Body n)) = false
says_open (Some Open) = true

unfoldable pub known_at : Said → Occurring → Bool
known_at s o = every (λ m. unsaid (field_of s m) || (has o.functions m || has o.plain m)) (up_to metavariable_count)

unfoldable pub kinds_at : Said → Occurring → Bool
kinds_at s o =
    every (λ m. not (has o.functions m) || says_body (field_of s m)) (up_to metavariable_count)
    && every (λ m. not (has o.plain m) || (says_value (field_of s m) || says_open (field_of s m))) (up_to metavariable_count)

unfoldable pub open_unneeded_at : Said → ℕ → Bool
open_unneeded_at s needed = every (λ m. not (says_open (field_of s m) && has needed m)) (up_to metavariable_count)

unfoldable pub unneeded_open_at : Said → ℕ → ℕ → Bool
unneeded_open_at s plain needed = every (λ m. not (has plain m) || (says_open (field_of s m) || has needed m)) (up_to metavariable_count)
