-- What the answers mean: for an accepted problem, each is the part of the checker's test that has its name in `meaning`.
use mathlib.Core.Path.{◌≡◌, refl, ap, ap₂, sym, ◌∙◌}
use Prim.Native.Nat.{ℕ, ◌<◌}
use mathlib.Core.Bool.{Bool, true, false, ◌&&◌, ◌||◌, not}
use mathlib.Core.List.{List}
use Rattle.meaning.specs.Limits.{metavariable_count}
use Rattle.meaning.specs.Basics.{is_in, up_to, ◌∈◌}
use Rattle.meaning.specs.Term.{one, NamedTerm, Term}
use Rattle.meaning.specs.Problem.{Problem, patterns, plain, applied, places_of, is_function, is_plain, standings}
use Rattle.meaning.specs.Filling.{Entry, body_or}
use Rattle.meaning.specs.Readable.{Accepted}
use Rattle.meaning.specs.Solution.{has_hole}
use Rattle.meaning.specs.Text.{Item, said}
use Rattle.meaning.specs.Passing.{is_absent, is_body_entry, is_value_entry, is_open, is_needed, known, kinds, open_unneeded, unneeded_open}
use Rattle.meaning.proofs.Lists.{up_to_mem}
use Rattle.meaning.proofs.Proper.{Proper, accepted_proper, one_place}
use Rattle.tokens.specs.Token.{pattern_tokens}
use Rattle.metavariables.specs.declared.Occurring.{Occurring}
use Rattle.metavariables.specs.Survey.{has, Surveyed}
use Rattle.metavariables.proofs.BitLaws.{every_same}
use Rattle.metavariables.proofs.SurveyMeaning.{survey_functions, survey_plain}
use Rattle.said.specs.declared.Said.{Said}
use Rattle.said.specs.Said.{item_of, field_of, SaidBy}
use Rattle.said.proofs.SaidLaws.{said_item}
use Rattle.entries.specs.Sets.{SetOf}
use Rattle.entries.specs.Fields.{unsaid, says_value, says_body, says_open, known_at, kinds_at, open_unneeded_at, unneeded_open_at}
use Rattle.entries.specs.Holes.{holed_at}
use Rattle.entries.specs.Needed.{needed_at}
use Rattle.entries.proofs.TestLaws.{set_tests}
use Rattle.entries.proofs.HeldFields.{absent_held, open_held, body_held, value_held}
use Rattle.entries.proofs.KnownItems.{known_items}
use Rattle.entries.proofs.HoleMeaning.{entry_holed}
use Rattle.entries.proofs.Standings.{needing, needing_plain, needing_needed, needing_every}
use Rattle.entries.proofs.NeededTokens.{needed_patterns}

module _ (p : Problem) (a : Accepted p) (ts : List ℕ) (is : List Item) (s : Said) (w : SaidBy ts is s) where
  abbrev entry : ℕ → Entry NamedTerm
  entry m = item_of is m

  open_says : (m : ℕ) → m < metavariable_count → says_open (field_of s m) ≡ is_open (said is m)
  open_says m h = open_held ts (entry m) (field_of s m) (w.fields m h) ∙ ap is_open (sym (said_item is m))

  proper : Proper p
  proper = accepted_proper p a

  module _ (o : Occurring) (v : Surveyed (pattern_tokens p) o) where
    functions_are : (m : ℕ) → m < metavariable_count → has o.functions m ≡ is_function p m
    functions_are = survey_functions p a.within o v

    plain_are : (m : ℕ) → m < metavariable_count → has o.plain m ≡ is_plain p m
    plain_are = survey_plain p a.within o v

    -- "A wrong .. metavariable is a no"
    pub known_means : known_at s o ≡ known p is
    unfolding known_at
    known_means =
        every_same (λ m. unsaid (field_of s m) || (has o.functions m || has o.plain m))
        (λ m. is_absent (said is m) || (is_function p m || is_plain p m)) (up_to metavariable_count)
        (λ m i.
        let h : m < metavariable_count = up_to_mem metavariable_count m i in
        ap₂ ◌||◌ (absent_held ts (entry m) (field_of s m) (w.fields m h) ∙ ap is_absent (sym (said_item is m)))
        (ap₂ ◌||◌ (functions_are m h) (plain_are m h)))
        ∙ known_items (λ m. is_function p m || is_plain p m) is w.readable

    -- "each function metavariable a body, and each other metavariable an expression or nothing (open)"
    pub kinds_means : kinds_at s o ≡ kinds p (said is)
    unfolding kinds_at
    kinds_means =
        ap₂ ◌&&◌
        (set_tests o.functions (applied (patterns p)) proper.small_applied functions_are (λ m. says_body (field_of s m))
        (λ f. is_body_entry (places_of p f) (said is f))
        (λ f i.
        let h : f < metavariable_count = proper.small_applied f i in
        body_held ts (entry f) (field_of s f) (w.fields f h)
        ∙ ap₂ is_body_entry (sym (one_place p a.within f i)) (sym (said_item is f))))
        (set_tests o.plain (plain (patterns p)) proper.small_plain plain_are (λ m. says_value (field_of s m) || says_open (field_of s m))
        (λ m. is_value_entry (said is m))
        (λ m i.
        let h : m < metavariable_count = proper.small_plain m i in
        value_held ts (entry m) (field_of s m) (w.fields m h)
        ∙ ap is_value_entry (sym (said_item is m))))

  -- The functions whose body has a hole
  module _ (holed : ℕ) (is-holed : SetOf (holed_at ts s) holed) where
    pub holed_means : (f : ℕ) → f < metavariable_count → has holed f ≡ has_hole 0 (one (body_or f (said is f)))
    unfolding SetOf
    holed_means f h =
        is-holed f h ∙ entry_holed ts f (entry f) (field_of s f) (w.fields f h)
        ∙ ap (λ (e : Entry Term). has_hole 0 (one (body_or f e))) (sym (said_item is f))

    -- The metavariables that need a value
    module _ (needed : ℕ) (is-needed : SetOf (needed_at (pattern_tokens p) holed) needed) where
      abbrev listed : List ℕ
      listed = needing (said is) (standings (patterns p))

      needed_listed : (m : ℕ) → m < metavariable_count → has needed m ≡ is_in m listed
      unfolding SetOf needed_at
      needed_listed m h = is-needed m h ∙ ap (is_in m) (needed_patterns (said is) holed holed_means p a.within)

      pub needed_means : (m : ℕ) → m < metavariable_count → has needed m ≡ is_needed (said is) (standings (patterns p)) m
      needed_means m h = needed_listed m h ∙ needing_needed (said is) m (standings (patterns p))

      -- "an open metavariable stands only in arguments of functions whose body has no hole"
      pub open_unneeded_means : open_unneeded_at s needed ≡ open_unneeded p (said is)
      unfolding open_unneeded_at
      open_unneeded_means =
          every_same (λ m. not (says_open (field_of s m) && has needed m)) (λ m. not (has needed m) || not (says_open (field_of s m))) (up_to metavariable_count)
          (λ m i. not_and (says_open (field_of s m)) (has needed m))
          ∙ set_tests needed listed small needed_listed (λ m. not (says_open (field_of s m))) (λ m. not (is_open (said is m)))
          (λ m i. ap not (open_says m (small m i)))
          ∙ needing_every (said is) (λ m. is_open (said is m)) (standings (patterns p))
        where
          not_and : (x y : Bool) → not (x && y) ≡ not y || not x
          not_and true true = refl
          not_and true false = refl
          not_and false true = refl
          not_and false false = refl

          small : (m : ℕ) → m ∈ listed → m < metavariable_count
          small m i = proper.small_plain m (needing_plain (said is) (patterns p) m i)

      -- "a metavariable that stands only in such arguments is open"
      pub unneeded_open_means : (o : Occurring) → Surveyed (pattern_tokens p) o
          → unneeded_open_at s o.plain needed ≡ unneeded_open p (said is)
      unfolding unneeded_open_at
      unneeded_open_means o v =
          set_tests o.plain (plain (patterns p)) proper.small_plain (plain_are o v) (λ m. says_open (field_of s m) || has needed m)
          (λ m. is_open (said is m) || is_needed (said is) (standings (patterns p)) m)
          (λ m i. let h : m < metavariable_count = proper.small_plain m i in ap₂ ◌||◌ (open_says m h) (needed_means m h))
