-- What the tests of fields owe: the law of each return, over the sets that the code holds.
use mathlib.Core.Path.{◌≡◌, refl, ap, ap₂, sym, ◌∙◌}
use Prim.Native.Nat.{ℕ, ◌^◌, ◌<◌}
use mathlib.Core.Bool.{Bool, true, false, ◌&&◌, ◌||◌, not, not-not}
use lib.Dec.{eqb}
use lib.Bits.{bit_and, bit_or}
use Rattle.meaning.specs.Limits.{metavariable_count}
use Rattle.meaning.specs.Basics.{every, up_to}
use Rattle.meaning.proofs.Lists.{mem_up_to, up_to_mem}
use Rattle.metavariables.specs.declared.Occurring.{Occurring}
use Rattle.metavariables.specs.Survey.{has, meets}
use Rattle.metavariables.proofs.BitLaws.{has_or, every_same}
use Rattle.metavariables.proofs.SurveyLaws.{meets_code}
use Rattle.said.specs.declared.Said.{Said}
use Rattle.entries.specs.Sets.{SetOf, within}
use Rattle.said.specs.Said.{field_of}
use Rattle.entries.specs.Fields.{unsaid, says_value, says_body, says_open, known_at, kinds_at, open_unneeded_at, unneeded_open_at}
use Rattle.entries.proofs.TestLaws.{every_at}

-- A test of each metavariable, in two ways
each_same : (p q : ℕ → Bool) → ((m : ℕ) → m < metavariable_count → p m ≡ q m)
    → every p (up_to metavariable_count) ≡ every q (up_to metavariable_count)
each_same p q f = every_same p q (up_to metavariable_count) (λ m i. f m (up_to_mem metavariable_count m i))

-- Two sets that are joined
joined_sets : (p q : ℕ → Bool) (a b : ℕ) → SetOf p a → SetOf q b → SetOf (λ m. p m || q m) (bit_or a b)
unfolding SetOf
joined_sets p q a b f g m h = has_or a b m ∙ ap₂ ◌||◌ (f m h) (g m h)

own_set : (a : ℕ) → SetOf (has a) a
unfolding SetOf
own_set a m h = refl

-- A set in the set of those that pass a test
within_tests : (a b : ℕ) (q : ℕ → Bool) → SetOf q b → within a b ≡ every (λ m. not (has a m) || q m) (up_to metavariable_count)
unfolding within SetOf
within_tests a b q f =
    each_same (λ m. not (has a m) || has b m) (λ m. not (has a m) || q m) (λ m h. ap (λ (x : Bool). not (has a m) || x) (f m h))

-- Each metavariable is in the set of all
all_has : (m : ℕ) → m < metavariable_count → has 4294967295 m ≡ true
unfolding metavariable_count
all_has m h = every_at (has 4294967295) (up_to 32) refl m (mem_up_to 32 m h)

module _ (s : Said) where
  abbrev occurs : Occurring → ℕ → Bool
  occurs o m = has o.functions m || has o.plain m

  pub known_returns : (o : Occurring) (none : ℕ) (found : Bool) → SetOf (λ m. unsaid (field_of s m)) none
      → found ≡ within 4294967295 (bit_or none (bit_or o.functions o.plain)) → found ≡ known_at s o
  unfolding known_at
  known_returns o none found f e =
      e
      ∙ within_tests 4294967295 _ (λ m. unsaid (field_of s m) || occurs o m)
      (joined_sets (λ m. unsaid (field_of s m)) (occurs o) none (bit_or o.functions o.plain) f
      (joined_sets (has o.functions) (has o.plain) o.functions o.plain (own_set o.functions) (own_set o.plain)))
      ∙ each_same (λ m. not (has 4294967295 m) || (unsaid (field_of s m) || occurs o m)) (λ m. unsaid (field_of s m) || occurs o m)
      (λ m h. ap (λ (b : Bool). not b || (unsaid (field_of s m) || occurs o m)) (all_has m h))

  -- bodies are the metavariables with a body, and found whether the functions are among them
  module _ (o : Occurring) (bodies : ℕ) (found : Bool) (are-bodies : SetOf (λ m. says_body (field_of s m)) bodies)
      (is_found : found ≡ within o.functions bodies) where
    abbrev value_or_open : ℕ → Bool
    value_or_open m = says_value (field_of s m) || says_open (field_of s m)

    functions_found : found ≡ every (λ m. not (has o.functions m) || says_body (field_of s m)) (up_to metavariable_count)
    functions_found = is_found ∙ within_tests o.functions bodies (λ m. says_body (field_of s m)) are-bodies

    pub kinds_refused : found ≡ false → false ≡ kinds_at s o
    unfolding kinds_at
    kinds_refused e =
        ap (λ (b : Bool). b && every (λ m. not (has o.plain m) || value_or_open m) (up_to metavariable_count))
        (sym e ∙ functions_found)

    pub kinds_returns : found ≡ true → (others : ℕ) (right : Bool) → SetOf value_or_open others
        → right ≡ within o.plain others → right ≡ kinds_at s o
    unfolding kinds_at
    kinds_returns e others right f h =
        ap₂ ◌&&◌ (sym e ∙ functions_found) (h ∙ within_tests o.plain others value_or_open f)

  module _ (needed opens : ℕ) (are-open : SetOf (λ m. says_open (field_of s m)) opens) where
    pub open_returns : opens < 2 ^ 32 → needed < 2 ^ 32 → eqb (bit_and opens needed) 0 ≡ open_unneeded_at s needed
    unfolding open_unneeded_at SetOf meets
    open_returns a b =
        sym (not-not (eqb (bit_and opens needed) 0)) ∙ ap not (meets_code opens a needed b)
        ∙ not-not (every (λ m. not (has opens m && has needed m)) (up_to metavariable_count))
        ∙ each_same (λ m. not (has opens m && has needed m)) (λ m. not (says_open (field_of s m) && has needed m))
        (λ m h. ap (λ (x : Bool). not (x && has needed m)) (are-open m h))

    pub unneeded_returns : (plain : ℕ) (found : Bool) → found ≡ within plain (bit_or opens needed) → found ≡ unneeded_open_at s plain needed
    unfolding unneeded_open_at
    unneeded_returns plain found e =
        e
        ∙ within_tests plain (bit_or opens needed) (λ m. says_open (field_of s m) || has needed m)
        (joined_sets (λ m. says_open (field_of s m)) (has needed) opens needed are-open (own_set needed))
