-- What an answer of a walk says.
--   Found   the faces are what is recorded at the front
use mathlib.Core.Path.{◌≡◌, refl, ap, sym, ◌∙◌}
use mathlib.Core.List.{List, ◌++◌}
use mathlib.Core.Option.{Option, none, some}
use Prim.Native.Nat.{ℕ, ◌≤◌}
use native.Mathlib.Omega.{arith}
use lib.ListN.{length, take, drop, length-append}
use lib.Seq.{take_at}
use Rattle.meaning.proofs.Lists.{never}
use Rattle.std.specs.Prelude.{Some, None}
use Rattle.std.specs.Prelude as std
use Rattle.lockstep.specs.Span.{answer_of, Walked}

pub record Found (walk : Option (List ℕ)) (new : List ℕ) (n : ℕ) : Type 0 where
  pub faces : List ℕ
  pub walked : walk ≡ some faces
  pub long : length faces ≡ n
  pub front : take n new ≡ faces
  pub room : n ≤ length new

module _ (walk : Option (List ℕ)) (old new : List ℕ) (q : std.Option ℕ) (w : Walked walk old new q) where
  pub found : (n : ℕ) → q ≡ Some n → Found walk new n
  found n e = go walk refl (sym e ∙ w.answer)
    where
      go : (o : Option (List ℕ)) → walk ≡ o → Some n ≡ answer_of o → Found walk new n
      go none h a = never (cc)
      go (some ns) h a =
          let l : length ns ≡ n = cc in
          let r : new ≡ ns ++ drop (length ns) old = w.recorded ns h in
          let all = length-append ns (drop (length ns) old) in
          record {
            faces = ns;
            walked = h;
            long = l;
            front = ap (take n) r ∙ take_at ns (drop (length ns) old) n l;
            room = omega (arith, ap length r);
          }

  pub disagreed : q ≡ None → walk ≡ none
  disagreed e = go walk refl (sym e ∙ w.answer)
    where
      go : (o : Option (List ℕ)) → walk ≡ o → None ≡ answer_of o → walk ≡ none
      go none h a = h
      go (some ns) h a = never (cc)
