-- What the code of the checks owes: the law of each return.
use mathlib.Core.Path.{◌≡◌, ap, ap₂, sym, ◌∙◌}
use mathlib.Core.Bool.{Bool, true, false, not}
use mathlib.Core.List.{List, map}
use mathlib.Core.Option.{none}
use Prim.Native.Nat.{ℕ, ◌<◌, ◌≤◌}
use native.Mathlib.Omega.{arith}
use lib.ListN.{length, take}
use borrow.Author.Tests.{lt-ltb, le-ltb}
use Rattle.meaning.specs.Limits.{metavariable_count, max_functions}
use Rattle.meaning.specs.Basics.{choose, guard}
use Rattle.meaning.proofs.Lists.{choose_true, choose_false}
use Rattle.metavariables.specs.declared.Occurring.{Occurring}
use Rattle.std.specs.Prelude.{Ok, Err, Some, None}
use Rattle.std.specs.Prelude as std
use Rattle.refusal.specs.declared.Refusal.TheVariants as refusals
use Rattle.lockstep.specs.Span.{Walked}
use Rattle.lockstep.proofs.Answers.{Found, found, disagreed}
use Rattle.faces.specs.FlatWalk.{flat_walk}
use Rattle.metavariables.specs.Survey.{Surveyed, meets, count, functions_in}
use Rattle.faces.specs.First.{first_node, firsts_of, any_large}
use Rattle.faces.specs.Check.{large_in, faces_in, after_walk, verdict, CheckedBy}
use Rattle.metavariables.proofs.SurveyLaws.{functions_set, both_set, count_set}

module _ (ps : List ℕ) (s : Occurring) (v : Surveyed ps s) where
  large_set : (es ns : List ℕ) → any_large es (firsts_of ps ns s.functions) ≡ large_in ps es ns
  unfolding firsts_of large_in
  large_set es ns = ap (λ (fs : List ℕ). any_large es (map (first_node ps ns) fs)) (functions_set ps s v)

  module _ (es old new : List ℕ) where
    pub checked_many : 8 < count metavariable_count s.functions → CheckedBy ps es old new (Err refusals.TooManyFunctions)
    unfolding verdict max_functions
    checked_many h =
        record {
          answer = sym (choose_true _ _ (lt-ltb 8 (length (functions_in ps)) (omega (arith, count_set ps s v))));
          recorded = λ ns w q. absurd (let z : ◌≡◌ {A = ℕ} 0 1 = cc in omega arith);
        }

    module _ (few : count metavariable_count s.functions ≤ 8) where
      after_faces : verdict ps es ≡ after_walk ps es (faces_in ps es)
      unfolding verdict max_functions
      after_faces = choose_false _ _ (le-ltb 8 (length (functions_in ps)) (omega (arith, count_set ps s v)))

      no_faces_lem : faces_in ps es ≡ none → CheckedBy ps es old new (Ok None)
      no_faces_lem e =
          record {
            answer = sym (after_faces ∙ ap (after_walk ps es) e);
            recorded = λ ns w q. absurd (let z : ◌≡◌ {A = ℕ} 0 1 = cc in omega arith);
          }

      -- T-09
      pub checked_both : meets metavariable_count s.functions s.plain ≡ true → CheckedBy ps es old new (Ok None)
      unfolding faces_in
      checked_both e = no_faces_lem (ap (λ (b : Bool). guard (not b) (flat_walk ps es)) (sym (both_set ps s v) ∙ e))

      module _ (apart : meets metavariable_count s.functions s.plain ≡ false) where
        faces_walked : faces_in ps es ≡ flat_walk ps es
        unfolding faces_in
        faces_walked = ap (λ (b : Bool). guard (not b) (flat_walk ps es)) (sym (both_set ps s v) ∙ apart)

        pub checked_none : (q : std.Option ℕ) → Walked (flat_walk ps es) old new q → q ≡ None → CheckedBy ps es old new (Ok None)
        checked_none q w e = no_faces_lem (faces_walked ∙ disagreed (flat_walk ps es) old new q w e)

        module _ (q : std.Option ℕ) (w : Walked (flat_walk ps es) old new q) (n : ℕ) (e : q ≡ Some n) where
          decided : (b : Bool) → b ≡ any_large es (firsts_of ps (take n new) s.functions)
              → verdict ps es ≡ choose b (Err refusals.FaceTooLarge) (Ok (Some n))
          decided b t =
              let f : Found (flat_walk ps es) new n = found (flat_walk ps es) old new q w n e in
              let big : large_in ps es f.faces ≡ b =
              sym (t ∙ ap (λ (ns : List ℕ). any_large es (firsts_of ps ns s.functions)) f.front ∙ large_set es f.faces) in
              after_faces ∙ ap (after_walk ps es) (faces_walked ∙ f.walked)
              ∙ ap₂ (λ (c : Bool) (m : ℕ). choose c (Err refusals.FaceTooLarge) (Ok (Some m))) big f.long

          pub checked_large : (b : Bool) → b ≡ any_large es (firsts_of ps (take n new) s.functions) → b ≡ true
              → CheckedBy ps es old new (Err refusals.FaceTooLarge)
          checked_large b t y =
              record {
                answer = sym (decided b t ∙ choose_true _ _ y);
                recorded = λ ns h q. absurd (let z : ◌≡◌ {A = ℕ} 0 1 = cc in omega arith);
              }

          pub checked_faces : (b : Bool) → b ≡ any_large es (firsts_of ps (take n new) s.functions) → b ≡ false
              → CheckedBy ps es old new (Ok (Some n))
          checked_faces b t y =
              record { answer = sym (decided b t ∙ choose_false _ _ y); recorded = λ ns h z. w.recorded ns (sym faces_walked ∙ h) }
