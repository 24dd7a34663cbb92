-- What loads and stores leave of the memory is a memory of the program.
use Rattle.std.proofs.Common.{◌≡◌, ◌≢◌, ℕ, zero, suc, ◌+◌, ◌-◌, ◌/◌, ◌%◌, ◌<◌, ◌≤◌, ◌⊎◌, inl, inr, Bool, true, false, cond, not, List, [], ◌∷◌, length, get_or, set, drop, filter, sym, ◌∙◌, subst, arith, length-set, length-append, length-drop, get_or-drop, get_or-set_other, get_or-set_same}
use Rattle.std.specs.Prelude.{All, AllPairs}
use Rattle.std.proofs.lemmas.Bool.{cases_eq, cases_lt}
use Rattle.std.proofs.lemmas.Bool.Decides.{nat_tests}
use Rattle.std.proofs.lemmas.Nat.{mod_below}
use Rattle.std.proofs.lemmas.List.{get_or_past}
use Rattle.std.proofs.lemmas.List.Elements.{All-nil, All-cons, All-append, All-drop, All-filter, filter_passes}
use Rattle.std.proofs.lemmas.List.Kept.{AllPairs-filter}
use Rattle.std.proofs.lemmas.List.Quantifiers.{all_pairs_push}
use Rattle.ia_insn.specs.declared.choices.LoadKind.{LoadKind}
use Rattle.ia_insn.specs.declared.choices.LoadKind.TheVariants as load
use Rattle.ia_program.specs.Programs.{Program, AreBytes}
use Rattle.ia_meaning.specs.declared.state.Spot.{Spot}
use Rattle.ia_meaning.specs.declared.state.Spot.TheVariants.{Static, Stacked}
use Rattle.ia_meaning.specs.declared.state.AlatEntry.{AlatEntry}
use Rattle.ia_program.specs.Addresses.{data_base}
use Rattle.ia_meaning.specs.State.{Memory, IsAlatEntry, IsMemory}
use Rattle.ia_meaning.specs.Loads.{with_bytes, stored, is_spot, is_apart, invalidated, entered, untouched, load_alat}
use Rattle.ia_meaning.proofs.AlatLists.{untouched_is_filter, invalidated_is_filter}
use Rattle.ia_meaning.proofs.DataAccesses.{length-with_bytes}

-- The entries of a memory.
pub record AreEntries (count : ℕ) (es : List AlatEntry) : Type 0 where
  pub most : length es ≤ 32
  pub entries : All (IsAlatEntry count) es
  pub apart : AllPairs (λ d e. d.key ≢ e.key) es

filter_shorter : {X : Type 0} (p : X → Bool) (xs : List X) → length (filter p xs) ≤ length xs
filter_shorter p [] = omega arith
filter_shorter p (x ∷ xs) = by_test (p x) (filter_shorter p xs)
  where
    by_test : (b : Bool) → length (filter p xs) ≤ length xs → length (cond b (x ∷ filter p xs) (filter p xs)) ≤ suc (length xs)
    by_test true h = omega arith
    by_test false h = omega arith

filtered_entries : (count : ℕ) (p : AlatEntry → Bool) (es : List AlatEntry) → AreEntries count es → AreEntries count (filter p es)
filtered_entries count p es h = record {
  most = let s = filter_shorter p es in let m = h.most in omega arith;
  entries = All-filter p (IsAlatEntry count) es h.entries;
  apart = AllPairs-filter (λ d e. d.key ≢ e.key) p es h.apart;
}

pub invalidated_entries : (count : ℕ) (es : List AlatEntry) (d : Spot) → AreEntries count es → AreEntries count (invalidated es d)
invalidated_entries count es d h = rw (invalidated_is_filter es d) (filtered_entries count (λ e. not (is_spot e.key d)) es h)

pub untouched_entries : (count : ℕ) (es : List AlatEntry) (address size : ℕ) → AreEntries count es
    → AreEntries count (untouched es address size)
untouched_entries count es address size h =
    rw (untouched_is_filter es address size) (filtered_entries count (λ e. is_apart e address size) es h)

spot_itself : (d e : Spot) → d ≡ e → is_spot d e ≡ true
spot_itself (Static n) (Static k) h = let e : n ≡ k = cc in grind (arith, nat_tests)
spot_itself (Stacked n) (Stacked k) h = let e : n ≡ k = cc in grind (arith, nat_tests)
spot_itself (Static n) (Stacked k) h = absurd (cc)
spot_itself (Stacked n) (Static k) h = absurd (cc)

-- No entry of the key is left.
abbrev pub HasOther : Spot → AlatEntry → Type 0
HasOther d e = e.key ≢ d

other_key : (d : Spot) (e : AlatEntry) → not (is_spot e.key d) ≡ true → HasOther d e
other_key d e h same = let s = spot_itself e.key d same in absurd (cc)

each_other : (d : Spot) (es : List AlatEntry) → All (HasOther d) (invalidated es d)
each_other d es =
    rw (invalidated_is_filter es d) (λ k x h. other_key d (get_or (filter (λ e. not (is_spot e.key d)) es) k x)
    (filter_passes (λ e. not (is_spot e.key d)) es k x h))

dropped_pairs : {X : Type 0} (R : X → X → Type 0) (n : ℕ) (xs : List X) → AllPairs R xs → AllPairs R (drop n xs)
dropped_pairs R n xs h i j d below within =
    let left = length-drop n xs in
    let a = get_or-drop n xs i d in
    let b = get_or-drop n xs j d in
    rw (a, b) (h (n + i) (n + j) d (omega arith) (omega arith))

pub entered_entries : (count : ℕ) (es : List AlatEntry) (e : AlatEntry) → IsAlatEntry count e → AreEntries count es
    → AreEntries count (entered es e)
unfolding entered
entered_entries count es e is h =
    let f = invalidated_entries count es e.key h in
    let left : List AlatEntry = invalidated es e.key in
    let n : ℕ = length left - 31 in
    let short = length-drop n left in
    let long = length-append (drop n left) (e ∷ []) in
    let m = f.most in
    record {
      most = omega arith;
      entries =
          All-append (IsAlatEntry count) (drop n left) (e ∷ []) (All-drop (IsAlatEntry count) n left f.entries)
          (All-cons (IsAlatEntry count) e [] is (All-nil (IsAlatEntry count)));
      apart =
          all_pairs_push (λ d e. d.key ≢ e.key) (drop n left) e (dropped_pairs (λ d e. d.key ≢ e.key) n left f.apart)
          (λ k d i. All-drop (HasOther e.key) n left (each_other e.key es) k d i);
    }

-- The entries and the bytes as a memory.
pub entries_of : (p : Program) (m : Memory) → IsMemory p m → AreEntries (length m.bytes) m.alat
entries_of p m h = record { most = h.most; entries = h.entries; apart = h.apart }

pub with_entries : (p : Program) (m : Memory) (es : List AlatEntry) → IsMemory p m → AreEntries (length m.bytes) es
    → IsMemory p (record m { alat = es })
with_entries p m es h e = record { count = h.count; bytes = h.bytes; most = e.most; entries = e.entries; apart = e.apart }

-- What is stored are bytes.
bytes_set : (bytes : List ℕ) (at x : ℕ) → AreBytes bytes → x < 256 → AreBytes (set bytes at x)
bytes_set bytes at x h small i = by_place (cases_eq i at) (cases_lt i (length bytes))
  where
    by_place : (i ≡ at) ⊎ (i ≢ at) → (i < length bytes) ⊎ (length bytes ≤ i) → get_or (set bytes at x) i 0 < 256
    by_place (inl e) (inl l) = let k : at < length bytes = omega arith in rw (e, get_or-set_same bytes at x 0 k) small
    by_place (inl e) (inr g) =
        let long = length-set bytes at x in
        let past : length (set bytes at x) ≤ i = omega arith in
        rw (get_or_past (set bytes at x) i 0 past) (omega arith)
    by_place (inr n) w = rw (get_or-set_other bytes at i x 0 n) (h i)

bytes_with : (n at x : ℕ) (bytes : List ℕ) → AreBytes bytes → AreBytes (with_bytes bytes at n x)
bytes_with zero at x bytes h = h
bytes_with (suc n) at x bytes h =
    bytes_with n (suc at) (x / 256) (set bytes at (x % 256)) (bytes_set bytes at (x % 256) h (mod_below x 256 (omega arith)))

pub stored_memory : (p : Program) (m : Memory) (address size x : ℕ) → IsMemory p m
    → IsMemory p (record { bytes = stored m.bytes address size x; alat = untouched m.alat address size })
unfolding stored
stored_memory p m address size x h =
    let same : length (stored m.bytes address size x) ≡ length m.bytes = length-with_bytes size (address - data_base) x m.bytes in
    let e =
    subst (λ (n : ℕ). AreEntries n (untouched m.alat address size)) (sym same)
    (untouched_entries (length m.bytes) m.alat address size (entries_of p m h)) in
    record {
      count = same ∙ h.count;
      bytes = bytes_with size (address - data_base) x m.bytes h.bytes;
      most = e.most;
      entries = e.entries;
      apart = e.apart;
    }

-- What a load leaves of the entries.
pub load_entries : (count : ℕ) (kind : LoadKind) (e : AlatEntry) (es : List AlatEntry) → IsAlatEntry count e → AreEntries count es
    → AreEntries count (load_alat kind e es)
load_entries count load.A e es is h = entered_entries count es e is h
load_entries count load.Sa e es is h = entered_entries count es e is h
load_entries count load.CNc e es is h = entered_entries count es e is h
load_entries count load.CClr e es is h = invalidated_entries count es e.key h
load_entries count load.CClrAcq e es is h = invalidated_entries count es e.key h
load_entries count kind e es is h = h
