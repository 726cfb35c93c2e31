-- The tokens of a forest tell how many binders are above each node.
use mathlib.Core.Path.{◌≡◌, ap, sym, ◌∙◌, subst}
use mathlib.Core.List.{List, ◌++◌, append_assoc}
use Prim.Native.Nat.{ℕ, zero, suc, ◌+◌}
use native.Mathlib.Nat.{add-zero}
use native.Mathlib.Omega.{arith}
use lib.ListN.{length, drop}
use lib.Seq.{get_or-drop, drop-drop, drop_at}
use Rattle.meaning.specs.Term.{Forest, nil, cons, size, Named, inner}
use Rattle.meaning.specs.Scope.{enter, nameless_label, nameless}
use Rattle.meaning.specs.Field.{tag_of}
use Rattle.meaning.specs.Read.{Context, context_below}
use Rattle.meaning.specs.Readable.{Readable}
use Rattle.meaning.proofs.ShiftLaws.{relabel_size}
use Rattle.tokens.specs.Token.{depth_in, payload_of, tokens}
use Rattle.tokens.specs.Key.{at}
use Rattle.tokens.proofs.TokenParts.{depth_token, tag_room, tokens_length}
use Rattle.tokens.proofs.Levels.{enter_deep}
use Rattle.tokens.proofs.ProblemTokens.{token_at, Room, room_depth, room_below, room_later}
use Rattle.lockstep.proofs.SlotWalk.{Deep}

pub tokens_deep : (table : List ℕ) (i levels : ℕ) (ctx : Context) (sc : List ℕ) (u : Forest Named) (rest : List ℕ)
    → drop i table ≡ tokens sc u ++ rest
    → Readable levels ctx u → Room levels sc u → Deep (λ m. depth_in (at table m)) i (length sc) (nameless sc u)
unfolding tokens
tokens_deep table i levels ctx sc nil rest split r h = tt
tokens_deep table i zero ctx sc (cons l c s) rest split r h = absurd r
tokens_deep table i (suc levels) ctx sc (cons l c s) rest split r h =
    let e : i + 1 ≡ suc i = omega arith in
    let below : drop (suc i) table ≡ tokens (enter l sc) c ++ (tokens sc s ++ rest) =
    ap (λ (m : ℕ). drop m table) (sym e) ∙ sym (drop-drop 1 i table) ∙ ap (drop 1) split ∙ append_assoc (tokens (enter l sc) c)
    (tokens sc s) rest in
    let later : drop (suc i + size c) table ≡ tokens sc s ++ rest =
    sym (drop-drop (size c) (suc i) table) ∙ ap (drop (size c)) below
    ∙ drop_at (tokens (enter l sc) c) (tokens sc s ++ rest) (size c) (tokens_length (enter l sc) c) in
    let here : at table i ≡ token_at sc l c =
    ap (at table) (sym (add-zero i)) ∙ sym (get_or-drop i table 0 0) ∙ ap (λ (ts : List ℕ). at ts 0) split in
    let inside : length (enter l sc) ≡ inner (nameless_label sc l) (length sc) =
    enter_deep (length sc) 0 sc l (sym (add-zero (length sc))) ∙ add-zero (inner (nameless_label sc l) (length sc)) in (
      ap depth_in here ∙ depth_token (tag_of l) (length sc) (suc (size c)) (payload_of sc l) (tag_room l) (room_depth levels sc l c s h),
      subst (λ (k : ℕ). Deep (λ m. depth_in (at table m)) (suc i) k (nameless (enter l sc) c)) inside
          (tokens_deep table (suc i) levels (context_below l ctx) (enter l sc) c (tokens sc s ++ rest) below r.1
          (room_below levels sc l c s h)),
      subst (λ (m : ℕ). Deep (λ n. depth_in (at table n)) (suc i + m) (length sc) (nameless sc s))
          (sym (relabel_size enter nameless_label (enter l sc) c))
          (tokens_deep table (suc i + size c) (suc levels) ctx sc s rest later r.2 (room_later levels sc l c s h)),
    )
