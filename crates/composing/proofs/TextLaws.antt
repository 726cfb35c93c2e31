-- A law for each return of the functions of `text`, and for what their calls require.
use mathlib.Core.Path.{◌≡◌, refl, ap, ap₂, sym, ◌∙◌, subst}
use mathlib.Core.List.{List, [], ◌∷◌, ◌++◌, append_assoc}
use Prim.Native.Nat.{ℕ, zero, suc, ◌+◌, ◌-◌, ◌<◌, ◌≤◌}
use native.Mathlib.Omega.{arith}
use borrow.Rule.Slice.PartMut.{put_mid, same_len_mid}
use Rattle.std.proofs.Common.{Option, Some}
use lib.ListN.{length, take, drop, set, length-append, length-drop, length-set, take-append-drop}
use lib.Seq.{drop-append_seam, length-take-le}
use Rattle.meaning.specs.Limits.{metavariable_count}
use Rattle.meaning.specs.Basics.{Bytes}
use Rattle.meaning.specs.Term.{NamedTerm, one}
use Rattle.meaning.specs.Filling as meant
use Rattle.meaning.specs.Field.{encode, field, word}
use Rattle.meaning.specs.Encoded.{encode_entry}
use Rattle.meaning.proofs.ByteLaws.{field_length}
use Rattle.masks.specs.Sets.{mask}
use Rattle.masks.specs.declared.NodeSet.{NodeSet}
use Rattle.slices.proofs.Slices.{rest_all, rows_joined}
use Rattle.copying.specs.Fixed.{Wrote}
use Rattle.copying.specs.Copied.{Copied, Copyable, TermIn, copied}
use Rattle.copying.specs.Measure.{BodyMeasurable, Measured, TermMeasured}
use Rattle.copying.proofs.CopiedMeaning.{copied_whole}
use Rattle.copying.proofs.WriteLaws.{Part, part_ends, part_goes, part_long}
use Rattle.composing.specs.Entries.{Denotes, DenotesAll, Entries, entry_at, fields_of}
use Rattle.composing.specs.Composing.{CopyRoom, CopyWritten, EntryMeasured, EntryRoom, EntryThere, EntryWritten, FieldsWritten, BytesFit}
use Rattle.composing.specs.Composing.{TextMeasured, TextRoom, Writable}
use Rattle.composing.specs.declared.entry.Plan.{Plan}
use Rattle.composing.specs.declared.entry.Entry.{Entry}
use Rattle.composing.specs.declared.entry.Entry.TheVariants as entries
use Rattle.composing.proofs.FieldLaws.{fields_end, fields_length, fields_next}

-- A field with a number
numbered_length : (tag m : ℕ) (bytes : Bytes) → length (field tag (m ∷ bytes)) ≡ 4 + length bytes
numbered_length tag m bytes = omega (arith, field_length tag (m ∷ bytes))

-- Without a node as a hole a term is itself
copied_none : (mask : ℕ) (t : NamedTerm) → mask ≡ 0 → copied mask t ≡ encode (one t)
copied_none mask t e = ap (λ (m : ℕ). copied m t) e ∙ copied_whole t

-- How long an entry's field is
module _ {es : List ℕ} {entry : Option Entry} where
  pub open_length : entry ≡ Some entries.Open → EntryMeasured es entry 4
  open_length q = subst (λ (x : Option Entry). EntryMeasured es x 4) (sym q)
      (record {
        measured = λ m e d. sym (ap (λ (x : meant.Entry NamedTerm). length (encode_entry m x)) d ∙ numbered_length 11 m []);
      })

  pub value_length : {node : ℕ} (n : ℕ) → entry ≡ Some (entries.Value node) → TermMeasured es node n → EntryMeasured es entry (4 + n)
  value_length {node} n q measured = subst (λ (x : Option Entry). EntryMeasured es x (4 + n)) (sym q) (record { measured = go })
    where
      go : (m : ℕ) (e : meant.Entry NamedTerm) → Denotes es (Some (entries.Value node)) e → 4 + n ≡ length (encode_entry m e)
      go m e (t, there, d) =
          ap (λ (k : ℕ). 4 + k) (measured.long t there) ∙ sym (numbered_length 8 m (encode (one t)))
          ∙ ap (λ (x : meant.Entry NamedTerm). length (encode_entry m x)) (sym d)

  pub body_length : {node : ℕ} {set : NodeSet} (n : ℕ) → entry ≡ Some (entries.Body node set) → Measured es node (mask set) n
      → EntryMeasured es entry (4 + n)
  body_length {node} {set} n q measured = subst (λ (x : Option Entry). EntryMeasured es x (4 + n)) (sym q) (record { measured = go })
    where
      go : (m : ℕ) (e : meant.Entry NamedTerm) → Denotes es (Some (entries.Body node set)) e → 4 + n ≡ length (encode_entry m e)
      go m e (t, b, there, d, same, chosen) =
          ap (λ (k : ℕ). 4 + k) (measured.long t there chosen ∙ ap length same) ∙ sym (numbered_length 9 m (encode (one b)))
          ∙ ap (λ (x : meant.Entry NamedTerm). length (encode_entry m x)) (sym d)

  -- A sum that fits
  pub measured_small : {r : ℕ} → EntryThere es entry → EntryMeasured es entry r → r < 65536
  measured_small h e = omega (arith, e.measured h.number h.says h.denotes, h.short)

  pub body_measurable : {node : ℕ} {set : NodeSet} → entry ≡ Some (entries.Body node set) → EntryThere es entry → BodyMeasurable es node (mask set)
  body_measurable {node} {set} q h =
      let (t, b, there, d, same, chosen) = subst (λ (x : Option Entry). Denotes es x h.says) q h.denotes in
      record { face = record { term = t; there = there; table = h.table }; chosen = chosen }

-- Writing an entry: what is asked of each writer, and what it gives
module _ {es : List ℕ} {m : ℕ} {entry : Option Entry} where
  pub open_room : {room : ℕ} → entry ≡ Some entries.Open → EntryRoom es m entry room → 4 ≤ room
  open_room q h =
      let d = subst (λ (x : Option Entry). Denotes es x h.says) q h.denotes in
      let l = ap (λ (x : meant.Entry NamedTerm). length (encode_entry m x)) d ∙ numbered_length 11 m [] in
      omega (arith, h.fits.inside)

  pub value_room : {node room : ℕ} {mask : ℕ} → mask ≡ 0 → entry ≡ Some (entries.Value node) → EntryRoom es m entry room → CopyRoom es node mask m 8 room
  value_room {node} {room} {mask} none q h =
      let (t, there, d) = subst (λ (x : Option Entry). Denotes es x h.says) q h.denotes in
      let same : encode_entry m h.says ≡ field 8 (m ∷ copied mask t) =
      ap (encode_entry m) d ∙ ap (λ (bs : Bytes). field 8 (m ∷ bs)) (sym (copied_none mask t none)) in
      record { term = t; there = there; fits = subst (λ (bs : Bytes). BytesFit bs room) same h.fits }

  pub value_written : {before after : Bytes} {r node mask : ℕ} → mask ≡ 0 → entry ≡ Some (entries.Value node)
      → CopyWritten es node mask m 8 before after r → EntryWritten es m entry before after r
  value_written {before} {after} {r} {node} {mask} none q h =
      subst (λ (x : Option Entry). EntryWritten es m x before after r) (sym q) (record { wrote = go })
    where
      go : (e : meant.Entry NamedTerm) → Denotes es (Some (entries.Value node)) e → Wrote (encode_entry m e) before after r
      go e (t, there, d) =
          subst (λ (bs : Bytes). Wrote bs before after r)
          (ap (λ (bs : Bytes). field 8 (m ∷ bs)) (copied_none mask t none) ∙ ap (encode_entry m) (sym d)) (h.wrote t there)

-- A number before what stands after it
set_drop : (k m : ℕ) (o : List ℕ) → k < length o → drop k (set o k m) ≡ m ∷ drop (suc k) o
set_drop k m [] h = absurd (omega arith)
set_drop zero m (x ∷ o) h = refl
set_drop (suc k) m (x ∷ o) h = set_drop k m o (omega arith)

headed : (tag m n : ℕ) (content o : Bytes) → n ≡ length (m ∷ content) → 3 < length o
    → tag ∷ (word n ++ drop 3 (set o 3 m)) ≡ tag ∷ (word (length (m ∷ content)) ++ (m ∷ drop 4 o))
headed tag m n content o e h = ap₂ (λ (k : ℕ) (bs : Bytes). tag ∷ (word k ++ bs)) e (set_drop 3 m o h)

pub open_field_lem : (m : ℕ) (before after : Bytes) → 4 ≤ length before → after ≡ 11 ∷ (word 1 ++ drop 3 (set before 3 m))
    → Wrote (field 11 (m ∷ [])) before after 4
unfolding field
open_field_lem m before after h e = (
  sym (numbered_length 11 m []),
  e ∙ headed 11 m 1 [] before refl (omega arith) ∙ ap (λ (bs : Bytes). 11 ∷ bs) (sym (append_assoc (word 1) (m ∷ []) (drop 4 before))),
)

-- A term's bytes in the part of the buffer after the head and the number, which are then put before them
module _ {es : List ℕ} {node mask m tag : ℕ} (before : Bytes) (room : CopyRoom es node mask m tag (length before)) where
  long : 4 + length (copied mask room.term) ≤ length before
  long = omega (arith, room.fits.inside, numbered_length tag m (copied mask room.term))

  pub copy_begins : 4 ≤ length before
  copy_begins = omega (arith, long)

  -- What `copy` requires
  pub copy_copies : Copyable es node mask (length (take (length before - 4) (drop 4 before)))
  copy_copies =
      let l = ap length (rest_all 4 before) ∙ length-drop 4 before in
      record {
        term = room.term;
        there = room.there;
        fits = omega (arith, long);
        short = omega (arith, room.fits.short, numbered_length tag m (copied mask room.term));
      }

  module _ (x : Bytes) (n : ℕ) (h : Copied es node mask (take (length before - 4) (drop 4 before)) x n) where
    pub copy_short : n + 1 < 65536
    unfolding Copied
    copy_short =
        let e = (h room.term room.there).0 in
        omega (arith, room.fits.short, numbered_length tag m (copied mask room.term))

    front : (t : NamedTerm) → TermIn es node t
        → put_mid 4 (length before - 4) before x ≡ (take 4 before ++ copied mask t) ++ drop (n + 4) before
    unfolding Copied
    front t there =
        let four : length (take 4 before) ≡ 4 = length-take-le 4 before copy_begins in
        let (count, tail) = h t there in
        let whole : before ≡ take 4 before ++ drop (length (take 4 before)) before =
        sym (take-append-drop 4 before) ∙ ap (λ (k : ℕ). take 4 before ++ drop k before) (sym four) in
        let after : x ≡ copied mask t
        ++ drop (length (copied mask t)) (take (length before - length (take 4 before)) (drop (length (take 4 before)) before)) =
        tail ∙ ap₂ (λ (j k : ℕ). copied mask t ++ drop j (take (length before - k) (drop k before))) count (sym four) in
        let ends : length (take 4 before ++ copied mask t) ≡ n + 4 =
        length-append (take 4 before) (copied mask t)
        ∙ (let z : length (take 4 before) + length (copied mask t) ≡ n + 4 = omega arith in z) in
        ap (λ (k : ℕ). put_mid k (length before - k) before x) (sym four)
        ∙ rows_joined (take 4 before) (copied mask t) before before x whole after
        ∙ ap (λ (k : ℕ). (take 4 before ++ copied mask t) ++ drop k before) ends

    put_length : length (put_mid 4 (length before - 4) before x) ≡ length before
    unfolding Copied
    put_length =
        let p = front room.term room.there in
        let (count, tail) = h room.term room.there in
        let four : length (take 4 before) ≡ 4 = length-take-le 4 before copy_begins in
        ap length p ∙ length-append (take 4 before ++ copied mask room.term) (drop (n + 4) before)
        ∙ (let a = length-append (take 4 before) (copied mask room.term) in let b = length-drop (n + 4) before in
        let z : length (take 4 before ++ copied mask room.term) + length (drop (n + 4) before) ≡ length before =
        omega (arith, long) in z)

    -- The buffer is as long as it was
    pub long_before : 4 ≤ length (put_mid 4 (length before - 4) before x)
    long_before = omega (arith, copy_begins, put_length)

    pub kept_length : length (set (put_mid 4 (length before - 4) before x) 3 m) ≡ length before
    kept_length = length-set (put_mid 4 (length before - 4) before x) 3 m ∙ put_length

    pub long_after : 4 ≤ length (set (put_mid 4 (length before - 4) before x) 3 m)
    long_after = omega (arith, copy_begins, kept_length)

    module _ {after : Bytes} (e : after ≡ tag ∷ (word (n + 1) ++ drop 3 (set (put_mid 4 (length before - 4) before x) 3 m))) where
      field_bytes : (t : NamedTerm) → TermIn es node t → Wrote (field tag (m ∷ copied mask t)) before after (n + 4)
      unfolding Copied field
      field_bytes t there =
          let count = (h t there).0 in
          let four : length (take 4 before) ≡ 4 = length-take-le 4 before copy_begins in
          let p : Bytes = (take 4 before ++ copied mask t) ++ drop (n + 4) before in
          let room : 3 < length p =
          omega (
            arith,
            length-append (take 4 before ++ copied mask t) (drop (n + 4) before),
            length-append (take 4 before) (copied mask t),
          ) in
          let tail : drop 4 p ≡ copied mask t ++ drop (n + 4) before =
          ap (drop 4) (append_assoc (take 4 before) (copied mask t) (drop (n + 4) before))
          ∙ ap (λ (k : ℕ). drop k (take 4 before ++ (copied mask t ++ drop (n + 4) before))) (sym four)
          ∙ drop-append_seam (take 4 before) (copied mask t ++ drop (n + 4) before) in (
            (let z : n + 4 ≡ 4 + length (copied mask t) = omega arith in z) ∙ sym (numbered_length tag m (copied mask t)),
            e ∙ ap (λ (bs : Bytes). tag ∷ (word (n + 1) ++ drop 3 (set bs 3 m))) (front t there)
                ∙ headed tag m (n + 1) (copied mask t) p (let z : n + 1 ≡ suc (length (copied mask t)) = omega arith in z) room
                ∙ ap (λ (bs : Bytes). tag ∷ (word (length (m ∷ copied mask t)) ++ (m ∷ bs))) tail
                ∙ ap (λ (bs : Bytes). tag ∷ bs)
                (sym (append_assoc (word (length (m ∷ copied mask t))) (m ∷ copied mask t) (drop (n + 4) before))),
          )

      pub copy_written : CopyWritten es node mask m tag before after (n + 4)
      copy_written = record { wrote = field_bytes }

-- A field is among all fields
counted_before : (says : Entries) (m : ℕ) → m ≤ metavariable_count → length (fields_of says m) ≤ length (fields_of says 0)
counted_before says zero h = omega arith
counted_before says (suc m) h =
    let a = counted_before says m (omega arith) in
    let b = fields_length says m (omega arith) in
    let e : suc m ≡ m + 1 = omega arith in
    let z : length (fields_of says (suc m)) ≡ length (fields_of says (m + 1)) = ap (λ (k : ℕ). length (fields_of says k)) e in
    omega arith

counted_from : (says : Entries) (m : ℕ) → m < metavariable_count → length (encode_entry m (says m)) ≤ length (fields_of says 0)
counted_from says m h =
    let a = counted_before says m (omega arith) in
    let b = fields_length says m h in
    omega arith

-- The length of the fields of all metavariables, those below m counted
pub entry_measured : {es : List ℕ} (plan : Plan) (m : ℕ) {r : ℕ} {entry : Option Entry} → entry ≡ entry_at plan m → EntryMeasured es entry r
    → EntryMeasured es (entry_at plan m) r
entry_measured {es} plan m {r} q h = subst (λ (x : Option Entry). EntryMeasured es x r) q h

pub entry_written : {es : List ℕ} (plan : Plan) (m : ℕ) {before after : Bytes} {r : ℕ} {entry : Option Entry} → entry ≡ entry_at plan m
    → EntryWritten es m entry before after r
    → EntryWritten es m (entry_at plan m) before after r
entry_written {es} plan m {before} {after} {r} q h = subst (λ (x : Option Entry). EntryWritten es m x before after r) q h

pub record Counting (es : List ℕ) (plan : Plan) (m n : ℕ) : Type 0 where
  pub whole : (says : Entries) → DenotesAll es plan says → n + length (fields_of says m) ≡ length (fields_of says 0)

-- What the loop of `write_from` keeps: the fields from metavariable m up to k are written, n bytes; with those from k on they are all
-- from m on
pub record Writing (es : List ℕ) (plan : Plan) (m k n : ℕ) (before out : Bytes) : Type 0 where
  pub within : k ≤ metavariable_count
  pub same : length out ≡ length before
  pub written : (says : Entries) → DenotesAll es plan says → Part (fields_of says m) (fields_of says k) n before out

module _ {es : List ℕ} {plan : Plan} where
  pub counting_goes_on : {m n k : ℕ} → m < metavariable_count → Counting es plan m n → EntryMeasured es (entry_at plan m) k
      → Counting es plan (m + 1) (n + k)
  counting_goes_on {m} small c e = record {
    whole = λ says d.
        let a = e.measured m (says m) (d m small) in
        let b = fields_length says m small in
        let g = c.whole says d in
        omega arith;
  }

  pub counting_ends : {m n : ℕ} → m ≡ metavariable_count → Counting es plan m n → TextMeasured es plan n
  counting_ends {m} e c = record {
    measured = λ says d.
        let z : length (fields_of says m) ≡ 0 = ap (λ (k : ℕ). length (fields_of says k)) e ∙ ap length (fields_end says) in
        let g = c.whole says d in
        omega arith;
  }

  module _ {m : ℕ} (w : Writable es plan) (small : m < metavariable_count) where
    -- What `entry_length` requires, and that the sum is small
    entry_there : EntryThere es (entry_at plan m)
    entry_there =
        let whole = counted_from w.says m small in
        record {
          table = w.table;
          number = m;
          says = w.says m;
          denotes = w.denotes m small;
          short = omega (arith, w.short);
        }

    -- of the entry as the code has it
    pub entry_at_there : {entry : Option Entry} → entry ≡ entry_at plan m → EntryThere es entry
    entry_at_there q = subst (EntryThere es) (sym q) entry_there

    pub sum_small : {n k : ℕ} → Counting es plan m n → EntryMeasured es (entry_at plan m) k → n + k < 65536
    sum_small c e =
        let a = e.measured m (w.says m) (w.denotes m small) in
        let b = fields_length w.says m small in
        let g = c.whole w.says w.denotes in
        omega (arith, w.short)

  module _ {m k n : ℕ} {before out : Bytes} (w : Writing es plan m k n before out) where
    pub writing_ends : metavariable_count ≤ k → FieldsWritten es plan m before out n
    writing_ends h =
        let last : k ≡ metavariable_count = omega (arith, w.within) in
        record { wrote = λ says d. part_ends (w.written says d) (ap (fields_of says) last ∙ fields_end says) }

    module _ (t : TextRoom es plan m (length before)) where
      left : n + length (fields_of t.says k) ≡ length (fields_of t.says m)
      left = part_long (w.written t.says t.denotes)

      pub written_inside : n ≤ length out
      written_inside = omega (arith, left, t.fits.inside, w.same)

      module _ (small : k < metavariable_count) where
        -- What `write_entry` requires, of the entry as the code has it
        pub next_room : {entry : Option Entry} → entry ≡ entry_at plan k → EntryRoom es k entry (length (take (length out - n) (drop n out)))
        next_room q =
            let l = fields_length t.says k small in
            let z = ap length (rest_all n out) ∙ length-drop n out in
            subst (λ (x : Option Entry). EntryRoom es k x (length (take (length out - n) (drop n out)))) (sym q) (record {
              says = t.says k;
              denotes = t.denotes k small;
              fits = record { inside = omega (arith, left, t.fits.inside, w.same); short = omega (arith, left, t.fits.short) };
            })

        module _ {x : Bytes} {j : ℕ} (e : EntryWritten es k (entry_at plan k) (take (length out - n) (drop n out)) x j) where
          pub next_short : n + j < 65536
          next_short =
              let a = (e.wrote (t.says k) (t.denotes k small)).0 in
              let l = fields_length t.says k small in
              omega (arith, left, t.fits.short)

          pub writing_goes : length x ≡ length (take (length out - n) (drop n out))
              → Writing es plan m (k + 1) (n + j) before (put_mid n (length out - n) out x)
          writing_goes kept =
              record {
                within = omega arith;
                same = same_len_mid n (length out - n) out x kept ∙ w.same;
                written = λ says d.
                    part_goes (w.written says d) (encode_entry k (says k)) (fields_of says (k + 1)) (fields_next says k small)
                    (e.wrote (says k) (d k small));
              }

  -- What the writer of all fields requires
  pub text_room_lem : (before : Bytes) {n : ℕ} → Writable es plan → TextMeasured es plan n → n ≤ length before
      → TextRoom es plan 0 (length before)
  text_room_lem before w h l =
      let e = h.measured w.says w.denotes in
      record {
        planned = w.planned;
        says = w.says;
        denotes = w.denotes;
        within = omega arith;
        fits = record { inside = omega arith; short = w.short };
      }
