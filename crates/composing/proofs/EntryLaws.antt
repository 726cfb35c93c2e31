-- A law for each return of the functions of `entry`.
use mathlib.Core.Path.{◌≡◌, refl, ap, sym, ◌∙◌}
use mathlib.Core.Bool.{Bool, true, false}
use Prim.Native.Nat.{ℕ, ◌<◌}
use native.Mathlib.Omega.{arith}
use Rattle.std.proofs.Common.{Option, Some, None}
use mathlib.Core.List.{[]}
use lib.ListN.{get_or}
use Rattle.meaning.specs.Limits.{max_functions, metavariable_count}
use Rattle.meaning.proofs.Lists.{choose_true, choose_false}
use Rattle.tokens.specs.Key.{at}
use Rattle.metavariables.specs.Survey.{count, has}
use Rattle.sources.specs.Demand.{first_of}
use Rattle.composing.specs.Entries.{Planned, body_at, entry_at, value_at, value_from}
use Rattle.composing.specs.declared.entry.Plan.{Plan}
use Rattle.composing.specs.declared.entry.Entry.{Entry}
use Rattle.composing.specs.declared.entry.Entry.TheVariants as entries

pub body_returned : (plan : Plan) (k : ℕ)
    → entries.Body (at plan.nodes k) (get_or plan.row k (record { words = [] })) ≡ body_at plan k
unfolding body_at
body_returned plan k = refl

pub value_returned : (plan : Plan) (m : ℕ) {node : Option ℕ} → first_of plan.sources.nodes m ≡ node → value_from node ≡ value_at plan m
unfolding value_at
value_returned plan m e = ap value_from (sym e)

-- What `body_of` requires
pub rank_small : (plan : Plan) (m k : ℕ) (found : Bool) → Planned plan → m < 32 → found ≡ has plan.occurring.functions m → found ≡ true
    → k ≡ count m plan.occurring.functions
    → k < 8
unfolding max_functions metavariable_count
rank_small plan m k found h small is e q = omega (arith, h.rank m small (sym is ∙ e), q)

-- The entry of a metavariable: found says whether it is a function, plain whether it occurs otherwise
module _ (plan : Plan) (m : ℕ) (found : Bool) (is_found : found ≡ has plan.occurring.functions m) where
  pub entry_function : (k : ℕ) (r : Entry) → found ≡ true → k ≡ count m plan.occurring.functions → r ≡ body_at plan k
      → Some r ≡ entry_at plan m
  unfolding entry_at
  entry_function k r e is q = ap Some (q ∙ ap (body_at plan) is) ∙ sym (choose_true _ _ (sym is_found ∙ e))

  module _ (no : found ≡ false) (plain : Bool) (is_plain : plain ≡ has plan.occurring.plain m) where
    pub entry_plain : (r : Entry) → plain ≡ true → r ≡ value_at plan m → Some r ≡ entry_at plan m
    unfolding entry_at
    entry_plain r e q = ap Some q ∙ sym (choose_false _ _ (sym is_found ∙ no) ∙ choose_true _ _ (sym is_plain ∙ e))

    pub entry_absent : plain ≡ false → None ≡ entry_at plan m
    unfolding entry_at
    entry_absent e = sym (choose_false _ _ (sym is_found ∙ no) ∙ choose_false _ _ (sym is_plain ∙ e))
