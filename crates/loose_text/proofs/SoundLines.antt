-- What holds of what lines say that are taken.
use Rattle.std.proofs.Common.{◌≡◌, ◌∙◌, refl, ap, subst, inl, inr, ℕ, zero, suc, ◌+◌, ◌≤◌, Bool, true, false, ◌||◌, List, [], ◌∷◌, ◌++◌, map, length, get_or, Result, Ok, Err, arith}
use Rattle.std.specs.Prelude.{IsTrue, replicate}
use Rattle.std.specs.List.{AllByRecursion}
use Rattle.std.specs.Map.{values_of}
use Rattle.std.specs.BTreeMap.{insert_entry}
use Rattle.std.specs.Cmp.Lexicographic.{slice_cmp}
use Rattle.std.specs.Ordering.{nat_cmp}
use Rattle.std.proofs.lemmas.List.{length-append, length-replicate}
use Rattle.first_fault.specs.Stages.{ArePassed}
use Rattle.ia_program.specs.declared.limits.TheConstants.{DATA_LIMIT}
use Rattle.ia_program.specs.Listed.{IsListed}
use Rattle.asm_reading.specs.declared.line.Line.{Line}
use Rattle.asm_reading.specs.declared.line.Line.TheVariants as line
use Rattle.asm_reading.specs.Lines.{IsListedLine}
use Rattle.asm_build.specs.declared.address.Address.{Address}
use Rattle.asm_build.specs.declared.address.Address.TheVariants as address
use Rattle.asm_build.specs.declared.reason.TextError.{TextError}
use Rattle.asm_build.specs.declared.text_parts.RelationLine.{RelationLine}
use Rattle.asm_build.specs.declared.text_parts.Section.{Section}
use Rattle.asm_build.specs.declared.text_parts.Section.TheVariants as section
use Rattle.asm_build.specs.TextParts.{TextParts, Labels, address_in, numbers_bytes}
use Rattle.asm_build.specs.TextReading.{ComesToBy, AllSayBy, text_lines}
use Rattle.asm_build.proofs.LabelValues.{kept_among}
use Rattle.asm_build.proofs.Membership.{all_both}
use Rattle.loose_text.specs.declared.item.ItemLine.{ItemLine}
use Rattle.loose_text.specs.LooseParts.{LooseParts, start, after, last_written, is_text, value_stages}
use Rattle.loose_text.specs.LooseReading.{loose_reading}
use Rattle.loose_text.specs.SoundParts.{marks, IsMarked, MayBeNamed, IsSound}
use Rattle.loose_text.proofs.Listing.{draft_listed}

-- Whether the instructions of lines are marked.
abbrev breaks : List ItemLine → List Bool
breaks lines = map (λ (l : ItemLine). l.item.breaks) lines

-- What is marked stays so.
still : (xs ys : List Bool) (n : ℕ) → get_or xs n false ≡ true → get_or (xs ++ ys) n false ≡ true
still [] ys n h = cc
still (x ∷ xs) ys zero h = h
still (x ∷ xs) ys (suc n) h = still xs ys n h

raised : (xs : List Bool) (more fresh : Bool) (n : ℕ) → get_or (xs ++ fresh ∷ []) n false ≡ true
    → get_or (xs ++ (more || fresh) ∷ []) n false ≡ true
raised xs false fresh n h = h
raised [] true fresh zero h = refl
raised [] true fresh (suc n) h = h
raised (x ∷ xs) true fresh zero h = h
raised (x ∷ xs) true fresh (suc n) h = raised xs true fresh n h

-- What comes next is marked where it is to be.
marked_next : (lines : List ItemLine) → get_or (breaks lines ++ true ∷ []) (length lines) false ≡ true
marked_next [] = refl
marked_next (l ∷ ls) = marked_next ls

-- The marks with one instruction more, and with a stop after the last.
one_more : (lines : List ItemLine) (l : ItemLine) → breaks (lines ++ l ∷ []) ≡ breaks lines ++ l.item.breaks ∷ []
one_more [] l = refl
one_more (k ∷ ks) l = ap (λ bs. k.item.breaks ∷ bs) (one_more ks l)

stopped_breaks : (lines : List ItemLine) → breaks (last_written lines) ≡ breaks lines
stopped_breaks [] = refl
stopped_breaks (l ∷ []) = refl
stopped_breaks (l ∷ m ∷ ls) = ap (λ bs. l.item.breaks ∷ bs) (stopped_breaks (m ∷ ls))

-- Facts of each element, from facts of each.
all_map : {X : Type 0} (P Q : X → Type 0) (xs : List X) → ((x : X) → P x → Q x) → AllByRecursion P xs → AllByRecursion Q xs
all_map P Q [] to all = tt
all_map P Q (x ∷ xs) to all = (to x all.0, all_map P Q xs to all.1)

-- What is known stays so where what is marked does.
known_still : (s t : LooseParts) → ((n : ℕ) → IsMarked s n → IsMarked t n) → (a : Address) → MayBeNamed s a → MayBeNamed t a
known_still s t to (address.Bundle n) h = to n h
known_still s t to (address.Byte at) h = h

-- The same lines, labels, relations and data, and no less marked.
kept : (s t : LooseParts) → IsSound s → ((n : ℕ) → IsMarked s n → IsMarked t n)
    → AllByRecursion (λ (l : ItemLine). IsListed l.item.insn) t.items
    → t.declared ≡ s.declared → IsSound t
kept s t h to listed same = record {
  listed = listed;
  labels = rw same (all_map (MayBeNamed s) (MayBeNamed t) (values_of s.declared.labels) (known_still s t to) h.labels);
  relations =
      rw same (all_map (λ (l : RelationLine). IsMarked s l.bundle)
      (λ (l : RelationLine). IsMarked t l.bundle) s.declared.relations (λ l m. to l.bundle m) h.relations);
  bytes = rw same h.bytes;
}

-- The labels with one more.
abbrev labels_with : LooseParts → List ℕ → Address → Labels
labels_with s name a = insert_entry (slice_cmp nat_cmp) s.declared.labels name a

-- What a label names that stands here.
here_known : (part : Section) (s t : LooseParts) → length s.declared.bytes ≤ DATA_LIMIT
    → (IsTrue (is_text part) → IsMarked t (length s.items)) → MayBeNamed t
    (address_in part (address.Bundle (length s.items)) s.declared.bytes)
here_known section.Text s t few marked = marked refl
here_known section.Data s t few marked = few

-- The lines so far with other labels, relations and data, and what comes next marked or not.
abbrev with_declared : LooseParts → Bool → TextParts → LooseParts
with_declared s more declared = record { declared = declared; items = s.items; fresh = more || s.fresh }

kept_marks : (s : LooseParts) (more : Bool) (declared : TextParts) (n : ℕ) → IsMarked s n → IsMarked (with_declared s more declared) n
kept_marks s more declared n h = raised (breaks s.items) more s.fresh n h

kept_labels : (s : LooseParts) (more : Bool) (declared : TextParts) → IsSound s
    → AllByRecursion (MayBeNamed (with_declared s more declared)) (values_of s.declared.labels)
kept_labels s more declared h =
    all_map (MayBeNamed s) (MayBeNamed (with_declared s more declared)) (values_of s.declared.labels)
    (known_still s (with_declared s more declared) (kept_marks s more declared)) h.labels

kept_relations : (s : LooseParts) (more : Bool) (declared : TextParts) → IsSound s
    → AllByRecursion (λ (l : RelationLine). IsMarked (with_declared s more declared) l.bundle) s.declared.relations
kept_relations s more declared h =
    all_map (λ (l : RelationLine). IsMarked s l.bundle) (λ (l : RelationLine). IsMarked (with_declared s more declared) l.bundle)
    s.declared.relations (λ l m. kept_marks s more declared l.bundle m) h.relations

-- A label more.
label_sound : (s : LooseParts) (part : Section) (name : List ℕ) (declared : TextParts) → IsSound s
    → declared.labels ≡ labels_with s name (address_in part (address.Bundle (length s.items)) s.declared.bytes)
    → declared.relations ≡ s.declared.relations → declared.bytes ≡ s.declared.bytes → IsSound (with_declared s (is_text part) declared)
label_sound s part name declared h labels relations bytes =
    let t = with_declared s (is_text part) declared in
    let known : MayBeNamed t (address_in part (address.Bundle (length s.items)) s.declared.bytes) =
    here_known part s t h.bytes (λ e. rw e (marked_next s.items)) in
    record {
      listed = h.listed;
      labels =
          rw labels (kept_among (MayBeNamed t) s.declared.labels name (address_in part (address.Bundle (length s.items)) s.declared.bytes)
          (kept_labels s (is_text part) declared h) known);
      relations = rw relations (kept_relations s (is_text part) declared h);
      bytes = rw bytes h.bytes;
    }

-- Nothing but data more.
data_sound : (s : LooseParts) (declared : TextParts) → IsSound s → declared.labels ≡ s.declared.labels
    → declared.relations ≡ s.declared.relations → length declared.bytes ≤ DATA_LIMIT → IsSound (with_declared s false declared)
data_sound s declared h labels relations few = record {
  listed = h.listed;
  labels = rw labels (kept_labels s false declared h);
  relations = rw relations (kept_relations s false declared h);
  bytes = few;
}

-- Relations more.
relation_sound : (s : LooseParts) (declared : TextParts) (l : RelationLine) → IsSound s → l.bundle ≡ length s.items
    → declared.labels ≡ s.declared.labels → declared.relations ≡ s.declared.relations ++ l ∷ [] → declared.bytes ≡ s.declared.bytes
    → IsSound (with_declared s true declared)
relation_sound s declared l h next labels relations bytes =
    let t = with_declared s true declared in
    let marked : IsMarked t l.bundle = rw next (marked_next s.items) in
    record {
      listed = h.listed;
      labels = rw labels (kept_labels s true declared h);
      relations =
          rw relations (all_both (λ (r : RelationLine). IsMarked t r.bundle) s.declared.relations (l ∷ [])
          (kept_relations s true declared h) (marked, tt));
      bytes = rw bytes h.bytes;
    }

-- An instruction more.
slot_sound : (s : LooseParts) (l : ItemLine) → IsSound s → l.item.breaks ≡ s.fresh → IsListed l.item.insn
    → IsSound (record { declared = s.declared; items = s.items ++ l ∷ []; fresh = false })
slot_sound s l h same listed =
    let t : LooseParts = record { declared = s.declared; items = s.items ++ l ∷ []; fresh = false } in
    let grown : marks t ≡ marks s ++ false ∷ [] =
    ap (λ bs. bs ++ false ∷ []) (one_more s.items l ∙ ap (λ b. breaks s.items ++ b ∷ []) same) in
    kept s t h (λ n m. rw grown (still (marks s) (false ∷ []) n m))
    (all_both (λ (k : ItemLine). IsListed k.item.insn) s.items (l ∷ []) h.listed (listed, tt)) refl

-- A stop after the last.
listed_stopped : (lines : List ItemLine) → AllByRecursion (λ (l : ItemLine). IsListed l.item.insn) lines
    → AllByRecursion (λ (l : ItemLine). IsListed l.item.insn) (last_written lines)
listed_stopped [] all = tt
listed_stopped (l ∷ []) all = (all.0, tt)
listed_stopped (l ∷ m ∷ ls) all = (all.0, listed_stopped (m ∷ ls) all.1)

stop_sound : (s : LooseParts) → IsSound s → IsSound (record { declared = s.declared; items = last_written s.items; fresh = s.fresh })
stop_sound s h =
    let t : LooseParts = record { declared = s.declared; items = last_written s.items; fresh = s.fresh } in
    let same : marks t ≡ marks s = ap (λ bs. bs ++ s.fresh ∷ []) (stopped_breaks s.items) in
    kept s t h (λ n m. rw same m) (listed_stopped s.items h.listed) refl

longer : (bytes more : List ℕ) → length bytes + length more ≤ DATA_LIMIT → length (bytes ++ more) ≤ DATA_LIMIT
longer bytes more h = rw (length-append bytes more) h

sound_after : (s : LooseParts) (n : ℕ) (value : Line) → IsListedLine value → ArePassed (value_stages s value) → IsSound s
    → IsSound (after s n value)
sound_after s n line.Empty listed passed h = data_sound s _ h refl refl h.bytes
sound_after s n (line.Label name) listed passed h = label_sound s s.declared.section name _ h refl refl refl
sound_after s n line.Text listed passed h = data_sound s _ h refl refl h.bytes
sound_after s n line.Data listed passed h = data_sound s _ h refl refl h.bytes
sound_after s n (line.Entry name) listed passed h = data_sound s _ h refl refl h.bytes
sound_after s n (line.Relation predicates) listed passed h =
    relation_sound s _ (record { line = n; bundle = length s.items; predicates = predicates }) h refl refl refl refl
sound_after s n line.Ignored listed passed h = data_sound s _ h refl refl h.bytes
sound_after s n (line.Numbers size values) listed passed h =
    data_sound s _ h refl refl (longer s.declared.bytes (numbers_bytes size values) passed.1.1.1.0)
sound_after s n (line.Skip count) listed passed h =
    let zeros : length {A = ℕ} (replicate count 0) ≡ count = length-replicate count 0 in
    data_sound s _ h refl refl (longer s.declared.bytes (replicate count 0) (rw zeros passed.1.1.1.0))
sound_after s n (line.Open name) listed passed h = absurd passed.1.0
sound_after s n (line.Slot draft stop) listed passed h = slot_sound s _ h refl (draft_listed draft listed passed.0)
sound_after s n line.Stop listed passed h = stop_sound s h
sound_after s n line.Close listed passed h = absurd passed.1.0

-- What lines come to.
ok_is : (s t : LooseParts) (r : Result LooseParts TextError) → r ≡ Ok s → r ≡ Ok t → s ≡ t
ok_is s t r a b = cc

ok_or_err : (t : LooseParts) (e : TextError) (r : Result LooseParts TextError) → r ≡ Ok t → r ≡ Err e → ⊥
ok_or_err t e r a b = cc

comes_sound : (s : LooseParts) (n : ℕ) (lines : List (List ℕ)) (r : Result LooseParts TextError) (t : LooseParts) → IsSound s → r ≡ Ok t
    → ComesToBy loose_reading s n lines r → IsSound t
comes_sound s n [] r t h is comes = subst IsSound (ok_is s t r comes is) h
comes_sound s n (line ∷ lines) r t h is (inl (why, refused, err)) = absurd (ok_or_err t _ r is err)
comes_sound s n (line ∷ lines) r t h is (inr (value, (says, passed), rest)) =
    comes_sound (after s n value) (n + 1) lines r t (sound_after s n value says.reads.listed passed h) is rest

start_sound : IsSound start
start_sound = record { listed = tt; labels = tt; relations = tt; bytes = omega arith }

-- What the lines of a text say that are all taken.
pub all_sound : (text : List ℕ) (s : LooseParts) → AllSayBy loose_reading text s → IsSound s
all_sound text s says = comes_sound start 1 (text_lines text) (Ok s) s start_sound refl says
