-- Sums over lists.
--   total     the sum of a number for each element
--   Charge    a key with an amount that is charged to it
--   due       all that is charged to a key
-- The law of charges: where each key of some distinct ones is due at least one charge of its own, the sum of these is at most that of all.
use mathlib.Core.Path.{◌≡◌, refl, ap, sym, ◌∙◌, subst}
use mathlib.Core.Logic.{◌⊎◌, ⊎_elim}
use Prim.Native.Nat.{ℕ, zero, suc, ◌+◌, ◌*◌, ◌≤◌}
use mathlib.Core.Bool.{Bool, true, false}
use mathlib.Core.List.Memᴰ
use mathlib.Core.List.{List, [], ◌∷◌, ◌++◌, map}
use native.Mathlib.Omega.{arith}
use native.Mathlib.Nat.{mul-suc}
use lib.ListN.{length, length-append}
use lib.Dec.{eqb}
use Rattle.meaning.specs.Basics.{choose, each, count_from, up_to, ◌∈◌, Distinct}
use Rattle.meaning.proofs.Lists.{eqb_eq, eqb_self, eqb_other, choose_true, choose_false}

abbrev pub total : {A : Type 0} → (A → ℕ) → List A → ℕ
total f [] = 0
total f (x ∷ xs) = f x + total f xs

pub total_append : {A : Type 0} (f : A → ℕ) (xs ys : List A) → total f (xs ++ ys) ≡ total f xs + total f ys
total_append f [] ys = omega arith
total_append f (x ∷ xs) ys = let r = total_append f xs ys in omega arith

pub total_each : {A B : Type 0} (g : B → ℕ) (f : A → List B) (xs : List A) → total g (each f xs) ≡ total (λ x. total g (f x)) xs
total_each g f [] = refl
total_each g f (x ∷ xs) = let r = total_each g f xs in let q = total_append g (f x) (each f xs) in omega arith

pub total_map : {A B : Type 0} (g : B → ℕ) (f : A → B) (xs : List A) → total g (map f xs) ≡ total (λ x. g (f x)) xs
total_map g f [] = refl
total_map g f (x ∷ xs) = ap (λ (n : ℕ). g (f x) + n) (total_map g f xs)

pub total_add : {A : Type 0} (f g : A → ℕ) (xs : List A) → total (λ x. f x + g x) xs ≡ total f xs + total g xs
total_add f g [] = omega arith
total_add f g (x ∷ xs) = let r = total_add f g xs in omega arith

pub total_same : {A : Type 0} (n : ℕ) (xs : List A) → total (λ x. n) xs ≡ n * length xs
total_same n [] = omega arith
total_same n (x ∷ xs) = let r = total_same n xs in let q : n * suc (length xs) ≡ n * length xs + n = mul-suc n (length xs) in omega arith

pub total_most : {A : Type 0} (f g : A → ℕ) (xs : List A) → ((x : A) → x ∈ xs → f x ≤ g x) → total f xs ≤ total g xs
total_most f g [] h = omega arith
total_most f g (x ∷ xs) h =
    let a : f x ≤ g x = h x (Memᴰ.head refl) in
    let r : total f xs ≤ total g xs = total_most f g xs (λ y m. h y (Memᴰ.tail m)) in
    omega arith

pub length_each : {A B : Type 0} (f : A → List B) (xs : List A) → length (each f xs) ≡ total (λ x. length (f x)) xs
length_each f [] = refl
length_each f (x ∷ xs) = length-append (f x) (each f xs) ∙ ap (λ (n : ℕ). length (f x) + n) (length_each f xs)

pub length_up_to : (n : ℕ) → length (up_to n) ≡ n
length_up_to n = go 0 n
  where
    go : (k n : ℕ) → length (count_from k n) ≡ n
    go k zero = refl
    go k (suc n) = ap suc (go (suc k) n)

-- Charges
abbrev pub Charge : Type 0
Charge = ℕ × ℕ

abbrev pub amount : Charge → ℕ
amount c = c.1

abbrev due_one : ℕ → Charge → ℕ
due_one m c = choose (eqb m c.0) c.1 0

due : List Charge → ℕ → ℕ
due cs m = total (due_one m) cs

charge_due : (m v : ℕ) (cs : List Charge) → (m, v) ∈ cs → v ≤ due cs m
unfolding due
charge_due m v [] h = absurd (Memᴰ.not-nil h)
charge_due m v (c ∷ cs) h =
    ⊎_elim
    (λ (e : ◌≡◌ {A = Charge} (m, v) c).
    let k : eqb m c.0 ≡ true = ap (λ (x : Charge). eqb m x.0) (sym e) ∙ eqb_self m in
    let a : due_one m c ≡ c.1 = choose_true c.1 0 k in
    let b : v ≡ c.1 = ap (λ (x : Charge). x.1) e in
    omega arith)
    (λ q. let r : v ≤ total (due_one m) cs = charge_due m v cs q in omega arith)
    (Memᴰ.cases_cons h)

none_due : (c : Charge) (ms : List ℕ) → (c.0 ∈ ms → ⊥) → total (λ m. due_one m c) ms ≡ 0
none_due c [] h = refl
none_due c (m ∷ ms) h =
    let a : due_one m c ≡ 0 = choose_false c.1 0 (eqb_other m c.0 (λ e. h (Memᴰ.head (sym e)))) in
    let r : total (λ k. due_one k c) ms ≡ 0 = none_due c ms (λ q. h (Memᴰ.tail q)) in
    omega arith

once_due : (c : Charge) (ms : List ℕ) → Distinct ms → total (λ m. due_one m c) ms ≤ c.1
once_due c [] d = omega arith
once_due c (m ∷ ms) d = go (eqb m c.0) refl (once_due c ms d.1)
  where
    go : (b : Bool) → eqb m c.0 ≡ b → total (λ k. due_one k c) ms ≤ c.1 → choose b c.1 0 + total (λ k. due_one k c) ms ≤ c.1
    go true e ih =
        let r : total (λ k. due_one k c) ms ≡ 0 = none_due c ms (λ q. d.0 (subst (λ (k : ℕ). k ∈ ms) (sym (eqb_eq m c.0 e)) q)) in
        omega arith
    go false e ih = omega arith

all_due : (cs : List Charge) (ms : List ℕ) → Distinct ms → total (due cs) ms ≤ total amount cs
unfolding due
all_due [] ms d = let r : total (λ m. 0) ms ≡ 0 = nothing ms in omega arith
  where
    nothing : (ms : List ℕ) → total (λ m. 0) ms ≡ 0
    nothing [] = refl
    nothing (m ∷ ms) = let r = nothing ms in omega arith
all_due (c ∷ cs) ms d =
    let a : total (λ m. due_one m c + total (due_one m) cs) ms ≡ total (λ m. due_one m c) ms + total (λ m. total (due_one m) cs) ms =
    total_add (λ m. due_one m c) (λ m. total (due_one m) cs) ms in
    let b : total (λ m. due_one m c) ms ≤ c.1 = once_due c ms d in
    let r : total (λ m. total (due_one m) cs) ms ≤ total amount cs = all_due cs ms d in
    omega arith

-- THE LAW OF CHARGES
pub charged_once : (w : ℕ → ℕ) (ms : List ℕ) (cs : List Charge) → Distinct ms → ((m : ℕ) → m ∈ ms → (w m ≡ 0) ⊎ ((m, w m) ∈ cs))
    → total w ms ≤ total amount cs
charged_once w ms cs d h =
    let a : total w ms ≤ total (due cs) ms =
    total_most w (due cs) ms (λ m q. ⊎_elim (λ (e : w m ≡ 0). omega arith) (λ r. charge_due m (w m) cs r) (h m q)) in
    let b : total (due cs) ms ≤ total amount cs = all_due cs ms d in
    omega arith
