-- A group is shown to the watchers of a list one after the other: those before a place have seen it.
use Rattle.std.proofs.Common.{◌≡◌, ◌<◌, ◌≤◌, ◌+◌, ◌-◌, ◌∷◌, ◌++◌, [], All, get_or, length, map, remove, slice_set, zip, ℕ, suc, true, false, if◌then◌else◌, List, refl, sym, ap, ◌∙◌, subst, arith, inl, inr, append_assoc, length-append, length-set, drop, flat_map}
use Rattle.std.specs.Prelude.{Result, Ok, Err, IfOk, OnOk, OnErr}
use Rattle.std.proofs.Math.Seq.{get_or-append_seam, set-append_seam, drop-cons}
use native.Mathlib.Numerals.{unary_clauses}
use Rattle.std.proofs.lemmas.List.{map-append, append-nil, length-map, nil_from_length}
use Rattle.std.proofs.lemmas.List.Edits.{length-remove}
use Rattle.ia_program.specs.declared.ending.GroupEvent.{GroupEvent}
use Rattle.watch_seam.specs.declared.watch.Keep.TheVariants.{Stay, Full}
use Rattle.watch_seam.specs.Watchers.{WatchState, after, is_full, keep_of}
use Rattle.watch_seam.specs.Watching.{AwaitsGroups, IsAmidGroup, left_after, numbered_report, reports_after}

-- The list as it was and what was reported then, what is reported now, and the parts of the list now: those before the
-- place have seen the group, and those that are left haven't. What watchers in boxes have seen is told by a function.
pub record IsShownTo {B : Type 0} (seen : B → WatchState) (e : GroupEvent) (text_0 numbers_0 : List ℕ) (list_0 : List B)
    (text numbers_before numbers_left : List ℕ) (before left : List B) : Type 0 where
  pub as_many_before : length numbers_before ≡ length before
  pub as_many : length numbers_left ≡ length left
  pub room : All AwaitsGroups (map seen left)
  pub reported : text ++ reports_after e (zip numbers_left (map seen left)) ≡ text_0 ++ reports_after e (zip numbers_0 (map seen list_0))
  pub stay : zip numbers_before (map seen before) ++ left_after e (zip numbers_left (map seen left))
      ≡ left_after e (zip numbers_0 (map seen list_0))
  pub amid : (now : List WatchState) → IsAmidGroup (e ∷ []) 0 (map seen left) now
      → IsAmidGroup (e ∷ []) 0 (map seen list_0) (map seen before ++ now)

-- The same of the list and its numbers, whose parts meet at a place.
pub record IsShown {B : Type 0} (seen : B → WatchState) (e : GroupEvent) (text_0 numbers_0 : List ℕ) (list_0 : List B)
    (text numbers : List ℕ) (list : List B) (at : ℕ) : Type 0 where
  pub numbers_before : List ℕ
  pub numbers_left : List ℕ
  pub before : List B
  pub left : List B
  pub numbers_parts : numbers ≡ numbers_before ++ numbers_left
  pub list_parts : list ≡ before ++ left
  pub place : length before ≡ at
  pub shown : IsShownTo seen e text_0 numbers_0 list_0 text numbers_before numbers_left before left

pub at_first : {B : Type 0} (seen : B → WatchState) (e : GroupEvent) (text numbers : List ℕ) (list : List B)
    → length numbers ≡ length list → All AwaitsGroups (map seen list) → IsShown seen e text numbers list text numbers list 0
at_first seen e text numbers list as_many room =
    record {
      numbers_before = [];
      numbers_left = numbers;
      before = [];
      left = list;
      numbers_parts = refl;
      list_parts = refl;
      place = refl;
      shown = record { as_many_before = refl; as_many = as_many; room = room; reported = refl; stay = refl; amid = λ now a. a };
    }

-- A watcher that stays isn't full, and one that is full is.
stays_is : (w : WatchState) → keep_of w ≡ Stay → is_full w ≡ false
stays_is w = elim (is_full w) as (λ t. (if t then Full else Stay) ≡ Stay → t ≡ false) [ true ↦ (λ e. cc) | false ↦ (λ e. refl) ]

full_is : (w : WatchState) → keep_of w ≡ Full → is_full w ≡ true
full_is w = elim (is_full w) as (λ t. (if t then Full else Stay) ≡ Full → t ≡ true) [ true ↦ (λ e. refl) | false ↦ (λ e. cc) ]

zip_end : {A B : Type 0} (xs : List A) (ys : List B) (x : A) (y : B) → length xs ≡ length ys
    → zip (xs ++ x ∷ []) (ys ++ y ∷ []) ≡ zip xs ys ++ (x, y) ∷ []
zip_end [] [] x y same = refl
zip_end [] (b ∷ ys) x y same = cc
zip_end (a ∷ xs) [] x y same = cc
zip_end (a ∷ xs) (b ∷ ys) x y same = ap (λ zs. (a, b) ∷ zs) (zip_end xs ys x y (omega (arith, same)))

tail_has_room : (w : WatchState) (ws : List WatchState) → All AwaitsGroups (w ∷ ws) → All AwaitsGroups ws
tail_has_room w ws room k d below = room (suc k) d (omega (arith, below))

-- One that isn't full stays where it is, and has seen the group.
stays : {B : Type 0} (seen : B → WatchState) (e : GroupEvent) (text_0 numbers_0 : List ℕ) (list_0 : List B) (text numbers_before : List ℕ)
    (number : ℕ) (numbers_left : List ℕ) (before : List B) (old now : B) (left : List B)
    → IsShownTo seen e text_0 numbers_0 list_0 text numbers_before (number ∷ numbers_left) before (old ∷ left)
    → seen now ≡ after (seen old) e → is_full (after (seen old) e) ≡ false
    → IsShownTo seen e text_0 numbers_0 list_0 text (numbers_before ++ number ∷ []) numbers_left (before ++ now ∷ []) left
stays seen e text_0 numbers_0 list_0 text nb n nl before old now left s is more =
    let mapped : map seen (before ++ now ∷ []) ≡ map seen before ++ after (seen old) e ∷ [] =
    map-append seen before (now ∷ []) ∙ ap (λ w. map seen before ++ w ∷ []) is in
    let fronts : zip (nb ++ n ∷ []) (map seen (before ++ now ∷ [])) ≡ zip nb (map seen before) ++ (n, after (seen old) e) ∷ [] =
    ap (zip (nb ++ n ∷ [])) mapped ∙ zip_end nb (map seen before) n (after (seen old) e)
    (s.as_many_before ∙ sym (length-map before seen)) in
    let rest : left_after e (zip (n ∷ nl) (map seen (old ∷ left))) ≡ (n, after (seen old) e) ∷ left_after e (zip nl (map seen left)) =
    rw more refl in
    record {
      as_many_before = length-append nb (n ∷ []) ∙ ap (λ k. k + 1) s.as_many_before ∙ sym (length-append before (now ∷ []));
      as_many = omega (arith, s.as_many);
      room = tail_has_room (seen old) (map seen left) s.room;
      reported = rw more at s.reported;
      stay =
          ap (λ zs. zs ++ left_after e (zip nl (map seen left))) fronts
          ∙ append_assoc (zip nb (map seen before)) ((n, after (seen old) e) ∷ []) (left_after e (zip nl (map seen left)))
          ∙ ap (λ zs. zip nb (map seen before) ++ zs) (sym rest) ∙ s.stay;
      amid = λ later a.
          subst (IsAmidGroup (e ∷ []) 0 (map seen list_0)) (sym (append_assoc (map seen before) (after (seen old) e ∷ []) later)
          ∙ ap (λ ws. ws ++ later) (sym mapped))
          (s.amid (after (seen old) e ∷ later) (inr (after (seen old) e, later, refl, inr refl, a)));
    }

-- One that is full reports and is gone.
leaves : {B : Type 0} (seen : B → WatchState) (e : GroupEvent) (text_0 numbers_0 : List ℕ) (list_0 : List B) (text numbers_before : List ℕ)
    (number : ℕ) (numbers_left : List ℕ) (before : List B) (old : B) (left : List B)
    → IsShownTo seen e text_0 numbers_0 list_0 text numbers_before (number ∷ numbers_left) before (old ∷ left)
    → is_full (after (seen old) e) ≡ true
    → IsShownTo seen e text_0 numbers_0 list_0 (text ++ numbered_report (number, after (seen old) e)) numbers_before numbers_left before
    left
leaves seen e text_0 numbers_0 list_0 text nb n nl before old left s full =
    let its = numbered_report (n, after (seen old) e) in
    let rest : reports_after e (zip (n ∷ nl) (map seen (old ∷ left))) ≡ its ++ reports_after e (zip nl (map seen left)) = rw full refl in
    record {
      as_many_before = s.as_many_before;
      as_many = omega (arith, s.as_many);
      room = tail_has_room (seen old) (map seen left) s.room;
      reported = append_assoc text its (reports_after e (zip nl (map seen left))) ∙ ap (λ t. text ++ t) (sym rest) ∙ s.reported;
      stay = rw full at s.stay;
      amid = λ later a. s.amid later (inl (full, a));
    }

-- The watchers that are left are there as they were.
as_they_were : (e : GroupEvent) (ws : List WatchState) → IsAmidGroup (e ∷ []) 0 ws ws
as_they_were e [] = refl
as_they_were e (w ∷ ws) = inr (w, ws, refl, inl refl, as_they_were e ws)

-- The watcher at the place of a list, and the parts around it.
pub record IsAt {B : Type 0} (seen : B → WatchState) (e : GroupEvent) (text_0 numbers_0 : List ℕ) (list_0 : List B)
    (text numbers : List ℕ) (list : List B) (at : ℕ) : Type 0 where
  pub numbers_before : List ℕ
  pub number : ℕ
  pub numbers_left : List ℕ
  pub before : List B
  pub watcher : B
  pub left : List B
  pub numbers_parts : numbers ≡ numbers_before ++ number ∷ numbers_left
  pub list_parts : list ≡ before ++ watcher ∷ left
  pub place : length before ≡ at
  pub shown : IsShownTo seen e text_0 numbers_0 list_0 text numbers_before (number ∷ numbers_left) before (watcher ∷ left)

past : {A : Type 0} (xs before : List A) (at : ℕ) → xs ≡ before ++ [] → length before ≡ at → at < length xs → ⊥
past xs before at parts is below =
    let none : length xs ≡ length before + 0 = rw parts (length-append before []) in
    omega (arith, none, is, below)

by_parts : {B : Type 0} (seen : B → WatchState) (e : GroupEvent) (text_0 numbers_0 : List ℕ) (list_0 : List B) (text numbers : List ℕ)
    (list : List B) (at : ℕ)
    (numbers_before numbers_left : List ℕ) (before left : List B) → numbers ≡ numbers_before ++ numbers_left → list ≡ before ++ left
    → length before ≡ at
    → IsShownTo seen e text_0 numbers_0 list_0 text numbers_before numbers_left before left → at < length list
    → IsAt seen e text_0 numbers_0 list_0 text numbers list at
by_parts seen e text_0 numbers_0 list_0 text numbers list at nb nl before [] np lp place s below =
    absurd (past list before at lp place below)
by_parts seen e text_0 numbers_0 list_0 text numbers list at nb [] before (old ∷ left) np lp place s below =
    absurd (omega (arith, s.as_many))
by_parts seen e text_0 numbers_0 list_0 text numbers list at nb (n ∷ nl) before (old ∷ left) np lp place s below = record {
  numbers_before = nb;
  number = n;
  numbers_left = nl;
  before = before;
  watcher = old;
  left = left;
  numbers_parts = np;
  list_parts = lp;
  place = place;
  shown = s;
}

pub at_watcher : {B : Type 0} (seen : B → WatchState) (e : GroupEvent) (text_0 numbers_0 : List ℕ) (list_0 : List B) (text numbers : List ℕ)
    (list : List B) (at : ℕ)
    → IsShown seen e text_0 numbers_0 list_0 text numbers list at → at < length list
    → IsAt seen e text_0 numbers_0 list_0 text numbers list at
at_watcher seen e text_0 numbers_0 list_0 text numbers list at s below =
    by_parts seen e text_0 numbers_0 list_0 text numbers list at s.numbers_before s.numbers_left s.before s.left s.numbers_parts
    s.list_parts s.place s.shown below

set_at : {A : Type 0} (xs before : List A) (x y : A) (left : List A) (at : ℕ) → xs ≡ before ++ x ∷ left → length before ≡ at
    → slice_set xs at y ≡ before ++ y ∷ left
set_at xs before x y left at parts is = rw (parts, sym is) (set-append_seam before x left y)

get_at : {A : Type 0} (xs before : List A) (x d : A) (left : List A) (at : ℕ) → xs ≡ before ++ x ∷ left → length before ≡ at
    → get_or xs at d ≡ x
get_at xs before x d left at parts is = rw (parts, sym is) (get_or-append_seam before x left d)

remove_seam : {A : Type 0} (before : List A) (x : A) (left : List A) → remove (before ++ x ∷ left) (length before) ≡ before ++ left
remove_seam [] x left = refl
remove_seam (y ∷ before) x left = ap (λ zs. y ∷ zs) (remove_seam before x left)

remove_at : {A : Type 0} (xs before : List A) (x : A) (left : List A) (at : ℕ) → xs ≡ before ++ x ∷ left → length before ≡ at
    → remove xs at ≡ before ++ left
remove_at xs before x left at parts is = rw (parts, sym is) (remove_seam before x left)

-- The watcher at the place has room for the group.
pub has_room : {B : Type 0} (seen : B → WatchState) (e : GroupEvent) (text_0 numbers_0 : List ℕ) (list_0 : List B) (text numbers : List ℕ)
    (list : List B) (at : ℕ) (old : B)
    → IsShown seen e text_0 numbers_0 list_0 text numbers list at → at < length list → old ≡ get_or list at old → AwaitsGroups (seen old)
has_room seen e text_0 numbers_0 list_0 text numbers list at old s below is =
    let a = at_watcher seen e text_0 numbers_0 list_0 text numbers list at s below in
    let its : old ≡ a.watcher = is ∙ get_at list a.before a.watcher old a.left at a.list_parts a.place in
    subst (λ b. AwaitsGroups (seen b)) (sym its) (a.shown.room 0 (seen a.watcher) (omega arith))

-- The watcher has seen the group, and stays.
pub after_stay : {B : Type 0} (seen : B → WatchState) (e : GroupEvent) (text_0 numbers_0 : List ℕ) (list_0 : List B) (text numbers : List ℕ)
    (list : List B) (at : ℕ) (old now : B)
    → IsShown seen e text_0 numbers_0 list_0 text numbers list at → at < length list → old ≡ get_or list at old
    → seen now ≡ after (seen old) e → keep_of (seen now) ≡ Stay
    → IsShown seen e text_0 numbers_0 list_0 text numbers (slice_set list at now) (at + 1)
after_stay seen e text_0 numbers_0 list_0 text numbers list at old now s below is shown keeps =
    let a = at_watcher seen e text_0 numbers_0 list_0 text numbers list at s below in
    let its : old ≡ a.watcher = is ∙ get_at list a.before a.watcher old a.left at a.list_parts a.place in
    let sees : seen now ≡ after (seen a.watcher) e = subst (λ b. seen now ≡ after (seen b) e) its shown in
    record {
      numbers_before = a.numbers_before ++ a.number ∷ [];
      numbers_left = a.numbers_left;
      before = a.before ++ now ∷ [];
      left = a.left;
      numbers_parts = a.numbers_parts ∙ sym (append_assoc a.numbers_before (a.number ∷ []) a.numbers_left);
      list_parts = set_at list a.before a.watcher now a.left at a.list_parts a.place ∙ sym (append_assoc a.before (now ∷ []) a.left);
      place = length-append a.before (now ∷ []) ∙ ap (λ n. n + 1) a.place;
      shown =
          stays seen e text_0 numbers_0 list_0 text a.numbers_before a.number a.numbers_left a.before a.watcher now a.left a.shown sees
          (subst (λ w. is_full w ≡ false) sees (stays_is (seen now) keeps));
    }

-- The watcher is full with the group, has reported and is gone.
pub after_full : {B : Type 0} (seen : B → WatchState) (e : GroupEvent) (text_0 numbers_0 : List ℕ) (list_0 : List B) (text numbers : List ℕ)
    (list : List B) (at : ℕ) (old now : B) (text_1 numbers_1 : List ℕ) (list_1 : List B) (d : WatchState)
    → IsShown seen e text_0 numbers_0 list_0 text numbers list at → at < length list → old ≡ get_or list at old
    → seen now ≡ after (seen old) e → keep_of (seen now) ≡ Full
    → text_1 ≡ text ++ numbered_report (get_or numbers at 0, get_or (map seen (slice_set list at now)) at d) → numbers_1 ≡ remove numbers at
    → list_1 ≡ remove (slice_set list at now) at
    → IsShown seen e text_0 numbers_0 list_0 text_1 numbers_1 list_1 at
after_full seen e text_0 numbers_0 list_0 text numbers list at old now text_1 numbers_1 list_1 d s below is shown full reported numbers_left
    list_left =
    let a = at_watcher seen e text_0 numbers_0 list_0 text numbers list at s below in
    let its : old ≡ a.watcher = is ∙ get_at list a.before a.watcher old a.left at a.list_parts a.place in
    let sees : seen now ≡ after (seen a.watcher) e = subst (λ b. seen now ≡ after (seen b) e) its shown in
    let at_numbers : length a.numbers_before ≡ at = a.shown.as_many_before ∙ a.place in
    let set_parts : slice_set list at now ≡ a.before ++ now ∷ a.left = set_at list a.before a.watcher now a.left at a.list_parts a.place in
    let mapped : map seen (slice_set list at now) ≡ map seen a.before ++ seen now ∷ map seen a.left =
    ap (map seen) set_parts ∙ map-append seen a.before (now ∷ a.left) in
    let number : get_or numbers at 0 ≡ a.number = get_at numbers a.numbers_before a.number 0 a.numbers_left at a.numbers_parts at_numbers in
    let state : get_or (map seen (slice_set list at now)) at d ≡ after (seen a.watcher) e =
    get_at (map seen (slice_set list at now)) (map seen a.before)
    (seen now) d (map seen a.left) at mapped (length-map a.before seen ∙ a.place) ∙ sees in
    let its_text : text_1 ≡ text ++ numbered_report (a.number, after (seen a.watcher) e) = rw (number, state) at reported in
    record {
      numbers_before = a.numbers_before;
      numbers_left = a.numbers_left;
      before = a.before;
      left = a.left;
      numbers_parts = numbers_left ∙ remove_at numbers a.numbers_before a.number a.numbers_left at a.numbers_parts at_numbers;
      list_parts = list_left ∙ remove_at (slice_set list at now) a.before now a.left at set_parts a.place;
      place = a.place;
      shown =
          subst (λ t. IsShownTo seen e text_0 numbers_0 list_0 t a.numbers_before a.numbers_left a.before a.left) (sym its_text)
          (leaves seen e text_0 numbers_0 list_0 text a.numbers_before a.number a.numbers_left a.before a.watcher a.left a.shown
          (subst (λ w. is_full w ≡ true) sees (full_is (seen now) full)));
    }

-- Where it couldn't see the group, or couldn't report, all the others are as they were or have seen it.
pub given_up_before : {B : Type 0} (seen : B → WatchState) (e : GroupEvent) (text_0 numbers_0 : List ℕ) (list_0 : List B)
    (text numbers : List ℕ) (list : List B) (at : ℕ) (old now : B)
    → IsShown seen e text_0 numbers_0 list_0 text numbers list at → at < length list → old ≡ get_or list at old → seen now ≡ seen old
    → IsAmidGroup (e ∷ []) 0 (map seen list_0) (map seen (slice_set list at now))
given_up_before seen e text_0 numbers_0 list_0 text numbers list at old now s below is same =
    let a = at_watcher seen e text_0 numbers_0 list_0 text numbers list at s below in
    let its : old ≡ a.watcher = is ∙ get_at list a.before a.watcher old a.left at a.list_parts a.place in
    let unseen : seen now ≡ seen a.watcher = same ∙ ap seen its in
    let set_parts : slice_set list at now ≡ a.before ++ now ∷ a.left = set_at list a.before a.watcher now a.left at a.list_parts a.place in
    let mapped : map seen (slice_set list at now) ≡ map seen a.before ++ seen now ∷ map seen a.left =
    ap (map seen) set_parts ∙ map-append seen a.before (now ∷ a.left) in
    subst (IsAmidGroup (e ∷ []) 0 (map seen list_0)) (sym mapped)
    (a.shown.amid (seen now ∷ map seen a.left) (inr (seen now, map seen a.left, refl, inl unseen, as_they_were e (map seen a.left))))

pub given_up_after : {B : Type 0} (seen : B → WatchState) (e : GroupEvent) (text_0 numbers_0 : List ℕ) (list_0 : List B)
    (text numbers : List ℕ) (list : List B) (at : ℕ) (old now : B) (list_1 : List B)
    → IsShown seen e text_0 numbers_0 list_0 text numbers list at → at < length list → old ≡ get_or list at old
    → seen now ≡ after (seen old) e → list_1 ≡ slice_set list at now
    → IsAmidGroup (e ∷ []) 0 (map seen list_0) (map seen list_1)
given_up_after seen e text_0 numbers_0 list_0 text numbers list at old now list_1 s below is shown kept =
    let a = at_watcher seen e text_0 numbers_0 list_0 text numbers list at s below in
    let its : old ≡ a.watcher = is ∙ get_at list a.before a.watcher old a.left at a.list_parts a.place in
    let sees : seen now ≡ after (seen a.watcher) e = subst (λ b. seen now ≡ after (seen b) e) its shown in
    let set_parts : slice_set list at now ≡ a.before ++ now ∷ a.left = set_at list a.before a.watcher now a.left at a.list_parts a.place in
    let mapped : map seen list_1 ≡ map seen a.before ++ seen now ∷ map seen a.left =
    ap (map seen) (kept ∙ set_parts) ∙ map-append seen a.before (now ∷ a.left) in
    subst (IsAmidGroup (e ∷ []) 0 (map seen list_0)) (sym mapped)
    (a.shown.amid (seen now ∷ map seen a.left) (inr (seen now, map seen a.left, refl, inr sees, as_they_were e (map seen a.left))))

pub as_many_at : {B : Type 0} (seen : B → WatchState) (e : GroupEvent) (text_0 numbers_0 : List ℕ) (list_0 : List B) (text numbers : List ℕ)
    (list : List B) (at : ℕ)
    → IsShown seen e text_0 numbers_0 list_0 text numbers list at → length numbers ≡ length list
as_many_at seen e text_0 numbers_0 list_0 text numbers list at s =
    ap length s.numbers_parts ∙ length-append s.numbers_before s.numbers_left ∙ omega (arith, s.shown.as_many_before, s.shown.as_many)
    ∙ sym (length-append s.before s.left) ∙ ap length (sym s.list_parts)

none_left : {A : Type 0} (xs before left : List A) (at : ℕ) → xs ≡ before ++ left → length before ≡ at → length xs ≤ at → left ≡ []
none_left xs before [] at parts is over = refl
none_left xs before (x ∷ left) at parts is over =
    let more : length xs ≡ length before + suc (length left) = rw parts (length-append before (x ∷ left)) in
    absurd (omega (arith, more, is, over))

-- Past the last one all have seen the group.
pub at_end : {B : Type 0} (seen : B → WatchState) (e : GroupEvent) (text_0 numbers_0 : List ℕ) (list_0 : List B) (text numbers : List ℕ)
    (list : List B) (at : ℕ)
    → IsShown seen e text_0 numbers_0 list_0 text numbers list at → length list ≤ at
    → (text ≡ text_0 ++ reports_after e (zip numbers_0 (map seen list_0)))
    × (zip numbers (map seen list) ≡ left_after e (zip numbers_0 (map seen list_0)))
at_end seen e text_0 numbers_0 list_0 text numbers list at s over =
    let left : s.left ≡ [] = none_left list s.before s.left at s.list_parts s.place over in
    let numbers_left : s.numbers_left ≡ [] = nil_from_length s.numbers_left (s.shown.as_many ∙ ap length left) in
    let all : list ≡ s.before = s.list_parts ∙ ap (λ xs. s.before ++ xs) left ∙ append-nil s.before in
    let all_numbers : numbers ≡ s.numbers_before =
    s.numbers_parts ∙ ap (λ xs. s.numbers_before ++ xs) numbers_left ∙ append-nil s.numbers_before in
    let none : zip s.numbers_left (map seen s.left) ≡ [] = rw numbers_left refl in
    let reported : text ++ [] ≡ text_0 ++ reports_after e (zip numbers_0 (map seen list_0)) =
    subst (λ ws. text ++ reports_after e ws ≡ text_0 ++ reports_after e (zip numbers_0 (map seen list_0))) none s.shown.reported in
    let stay : zip s.numbers_before (map seen s.before) ++ [] ≡ left_after e (zip numbers_0 (map seen list_0)) =
    subst (λ ws. zip s.numbers_before (map seen s.before) ++ left_after e ws ≡ left_after e (zip numbers_0 (map seen list_0))) none
    s.shown.stay in
    (sym (append-nil text) ∙ reported, rw (all, all_numbers) (sym (append-nil (zip s.numbers_before (map seen s.before))) ∙ stay))

-- What holds anyhow holds where a call failed.
pub if_err : {X E : Type 0} {P : Type 0} (r : Result X E) → P → OnErr r P
if_err (Ok x) p = tt
if_err (Err e) p = p

pub one_fewer : {B : Type 0} (list list_1 : List B) (at : ℕ) (now : B) → at < length list → list_1 ≡ remove (slice_set list at now) at
    → length list_1 - at < length list - at
one_fewer list list_1 at now below is =
    let set : length (slice_set list at now) ≡ length list = length-set list at now in
    let len : length list_1 + 1 ≡ length list = rw is (length-remove (slice_set list at now) at (omega (arith, set, below)) ∙ set) in
    omega (arith, len, below)

pub appended : (old heading its middle new : List ℕ) → middle ≡ old ++ heading → new ≡ middle ++ its → new ≡ old ++ (heading ++ its)
appended old heading its middle new e f = f ∙ ap (λ text. text ++ its) e ∙ append_assoc old heading its

-- The watchers from a place on are still to report.
pub record IsReportedTo {B : Type 0} (seen : B → WatchState) (all : List ℕ) (text numbers : List ℕ) (list : List B) (at : ℕ) : Type 0 where
  pub within : at ≤ length list
  pub as_many : length numbers ≡ length list
  pub whole : text ++ flat_map numbered_report (zip (drop at numbers) (map seen (drop at list))) ≡ all

next : {A : Type 0} (xs : List A) (at : ℕ) (d : A) → at < length xs → drop at xs ≡ get_or xs at d ∷ drop (at + 1) xs
next xs at d below = simp unary_clauses (drop-cons xs at d below)

pub reported_one : {B : Type 0} (seen : B → WatchState) (all text numbers : List ℕ) (list : List B) (at n : ℕ) (w : B) (text_1 : List ℕ)
    → IsReportedTo seen all text numbers list at → at < length list → n ≡ get_or numbers at n → w ≡ get_or list at w
    → text_1 ≡ text ++ numbered_report (n, seen w)
    → IsReportedTo seen all text_1 numbers list (at + 1)
reported_one seen all text numbers list at n w text_1 r below is_n is_w is =
    let numbers_left : drop at numbers ≡ n ∷ drop (at + 1) numbers =
    next numbers at n (omega (arith, r.as_many, below)) ∙ ap (λ x. x ∷ drop (at + 1) numbers) (sym is_n) in
    let left : drop at list ≡ w ∷ drop (at + 1) list = next list at w below ∙ ap (λ x. x ∷ drop (at + 1) list) (sym is_w) in
    let whole : text ++ flat_map numbered_report (zip (n ∷ drop (at + 1) numbers) (map seen (w ∷ drop (at + 1) list))) ≡ all =
    rw (numbers_left, left) at r.whole in
    record {
      within = omega (arith, below);
      as_many = r.as_many;
      whole =
          ap (λ t. t ++ flat_map numbered_report (zip (drop (at + 1) numbers) (map seen (drop (at + 1) list)))) is
          ∙ append_assoc text (numbered_report (n, seen w)) (flat_map numbered_report
          (zip (drop (at + 1) numbers) (map seen (drop (at + 1) list)))) ∙ whole;
    }

pub of_ok : {T E : Type 0} (r : Result T E) (v : T) (P : T → Type 0) → r ≡ Ok v → IfOk r P → P v
of_ok r v P is o = subst (λ x. IfOk x P) is o

-- What holds in any case holds where the result is Ok.
pub if_ok_always : {X E : Type 0} {P : Type 0} (r : Result X E) → P → OnOk r P
if_ok_always (Ok x) p = p
if_ok_always (Err e) p = tt
