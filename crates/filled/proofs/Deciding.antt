-- A test of each recorded face decides whether a filled term is another: by lockstep, where the test of a face decides whether the face is
-- satisfied. That serves thrice: for a problem, for a body and for an argument.
--   Decides   a test says just whether something holds; and it can be made
use mathlib.Core.Path.{◌≡◌, refl, sym, ◌∙◌, subst}
use mathlib.Core.Logic.{◌↔◌}
use mathlib.Core.Bool.{Bool, true, false, ◌&&◌, false≢true}
use mathlib.Core.List.Memᴰ
use mathlib.Core.List.{List, [], ◌∷◌}
use mathlib.Core.Option.{Option, none, some}
use Prim.Native.Nat.{ℕ}
use Rattle.meaning.specs.Basics.{All, AllO, every, holds, ◌∈◌}
use Rattle.meaning.specs.Term.{Term, Terms}
use Rattle.meaning.specs.Filling.{Handler, fill}
use Rattle.meaning.specs.Face.{Face, walk}
use Rattle.meaning.specs.Agree.{Satisfied}
use Rattle.meaning.proofs.Lists.{never}
use Rattle.meaning.proofs.Lockstep.{lockstep}
use Rattle.masks.proofs.Cases.{and_left, and_right, and_both}
use Rattle.lockstep.specs.Recorded.{Records, RecordedBy, Both}

pub record Decides (ready : Type 0) (test : Bool) (means : Type 0) : Type 0 where
  pub can : ready
  pub into : test ≡ true → means
  pub back : means → test ≡ true

-- A test that says no of what does not hold
pub decides_no : (R : Type 0) (b : Bool) (P : Type 0) → R → b ≡ false → (P → ⊥) → Decides R b P
decides_no R b P r e f = record { can = r; into = λ t. absurd (false≢true (sym e ∙ t)); back = λ q. absurd (f q) }

-- What holds said in another way
decides_as : (R : Type 0) (b : Bool) (P Q : Type 0) → P ↔ Q → Decides R b P → Decides R b Q
decides_as R b P Q e d = record { can = d.can; into = λ t. e.0 (d.into t); back = λ q. d.back (e.1 q) }

decides_both : (R S : Type 0) (a b : Bool) (P Q : Type 0) → Decides R a P → Decides S b Q → Decides (R × S) (a && b) (P × Q)
decides_both R S a b P Q d e = record {
  can = (d.can, e.can);
  into = λ t. (d.into (and_left a b t), e.into (and_right a b t));
  back = λ q. and_both a b (d.back q.0) (e.back q.1);
}

module _ (p e : ℕ → Option Term) (d : ℕ → ℕ) (ready : ℕ → Type 0) (test : ℕ → Bool) where
  -- Every recorded face
  each_decided : (P : Face → Type 0) (ns : List ℕ) (xs : List Face) → RecordedBy p e d ns xs
      → ((n : ℕ) (x : Face) → x ∈ xs → Records p e d n x → Decides (ready n) (test n) (P x))
      → Decides (All ready ns) (every test ns) (All P xs)
  each_decided P [] [] r f = record { can = tt; into = λ t. tt; back = λ q. refl }
  each_decided P [] (x ∷ xs) r f = absurd r
  each_decided P (n ∷ ns) [] r f = absurd r
  each_decided P (n ∷ ns) (x ∷ xs) r f =
      decides_both (ready n) (All ready ns) (test n) (every test ns) (P x) (All P xs) (f n x (Memᴰ.head refl) r.0)
      (each_decided P ns xs r.1 (λ m y q. f m y (Memᴰ.tail q)))

  -- Of a walk that may fail
  walk_decided : (P : Face → Type 0) (o : Option (List ℕ)) (w : Option (List Face)) → Both (RecordedBy p e d) o w
      → ((xs : List Face) → w ≡ some xs → (n : ℕ) (x : Face) → x ∈ xs → Records p e d n x → Decides (ready n) (test n) (P x))
      → Decides ((ns : List ℕ) → o ≡ some ns → All ready ns) (holds (every test) o) (AllO P w)
  walk_decided P none none r f = record { can = λ ns q. never (cc); into = λ t. false≢true t; back = λ q. absurd q }
  walk_decided P none (some xs) r f = absurd r
  walk_decided P (some ns) none r f = absurd r
  walk_decided P (some ns) (some xs) r f =
      let all = each_decided P ns xs r (f xs refl) in
      record {
        can = λ ms q. subst (All ready) (let same : ns ≡ ms = cc in same) all.can;
        into = all.into;
        back = all.back;
      }

  -- THE THEOREM
  pub fill_decided : (h : Handler) (k j : ℕ) (u v : Terms) (o : Option (List ℕ)) → Both (RecordedBy p e d) o (walk k j u v)
      → ((xs : List Face) → walk k j u v ≡ some xs → (n : ℕ) (x : Face) → x ∈ xs → Records p e d n x
      → Decides (ready n) (test n) (Satisfied h x))
      → Decides ((ns : List ℕ) → o ≡ some ns → All ready ns) (holds (every test) o) (fill h k u ≡ v)
  fill_decided h k j u v o r f =
      let l = lockstep h k j u v in
      decides_as ((ns : List ℕ) → o ≡ some ns → All ready ns) (holds (every test) o) (AllO (Satisfied h) (walk k j u v)) (fill h k u ≡ v)
      (l.1, l.0)
      (walk_decided (Satisfied h) o (walk k j u v) r f)
