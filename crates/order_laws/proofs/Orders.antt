-- Any order of writes that fit together leaves the same.
use Rattle.std.proofs.Common.{ℕ, zero, suc, ◌%◌, ◌<◌, ◌+◌, ◌≡◌, ◌≢◌, ◌⊎◌, List, [], ◌∷◌, length, set, refl, sym, ◌∙◌, ap, arith, inl, inr}
use Rattle.std.specs.List.{AllByRecursion as Each}
use Rattle.std.proofs.lemmas.List.{length-set}
use Rattle.ia_meaning.specs.declared.state.Cell.{Cell}
use Rattle.ia_meaning.specs.State.{Registers}
use Rattle.ia_meaning.specs.declared.write.Write.{Write}
use Rattle.ia_meaning.specs.declared.write.Write.TheVariants.{SetStatic, SetCell, SetPredicate, SetBranch, SetUnat, SetPfs, SetLc, SetEc, SetFrame}
use Rattle.ia_meaning.specs.declared.write.FrameCause.TheVariants.{Resized, Renamed}
use Rattle.ia_meaning.specs.Writes.{put, apply, resized, frame_changes}
use Rattle.resource_sets.specs.AccessLaws.{StaticAt, CellAt, PredicateAt, BranchAt, TheFrame, location}
use Rattle.ia_meaning.specs.WriteOrders.{item_at, others, head_of, tail_of, arranged_within, arranged}
use Rattle.order_laws.proofs.Untouched.{each_map}
use Rattle.order_laws.specs.OrderLaws.{FitsBeside, FitTogether, IsCellBelow, IsNoFrame, IsReady}

pub set-set_other : {A : Type 0} (l : List A) (i j : ℕ) (a b : A) → i ≢ j → set (set l i a) j b ≡ set (set l j b) i a
set-set_other [] i j a b ne = refl
set-set_other (x ∷ l) zero zero a b ne = absurd (ne refl)
set-set_other (x ∷ l) zero (suc j) a b ne = refl
set-set_other (x ∷ l) (suc i) zero a b ne = refl
set-set_other (x ∷ l) (suc i) (suc j) a b ne = ap (λ t. x ∷ t) (set-set_other l i j a b (λ e. ne (ap suc e)))

pub set-resized : (n : ℕ) (l : List Cell) (c : ℕ) (x : Cell) → c < length l → set (resized n l) c x ≡ resized n (set l c x)
set-resized zero l c x h = refl
set-resized (suc n) [] c x h = absurd (omega arith)
set-resized (suc n) (y ∷ l) zero x h = refl
set-resized (suc n) (y ∷ l) (suc c) x h = ap (λ t. y ∷ t) (set-resized n l c x (omega arith))

pub commute : (v w : Write) (r : Registers) → location v ≢ location w → IsReady r (v ∷ w ∷ []) → put w (put v r) ≡ put v (put w r)
commute (SetStatic n c) (SetStatic m d) r ne h =
    ap (λ l. record r { statics = l }) (set-set_other r.statics n m c d (λ e. ne (ap StaticAt e)))
commute (SetCell n c) (SetCell m d) r ne h = ap (λ l. record r { cells = l }) (set-set_other r.cells n m c d (λ e. ne (ap CellAt e)))
commute (SetCell n c) (SetFrame cause f) r ne (inl h) =
    ap (λ l. record r { frame = f; cells = l }) (sym (set-resized (f.base + f.sof) r.cells n c h.0))
commute (SetCell n c) (SetFrame cause f) r ne (inr h) = absurd (h.1.0 refl)
commute (SetFrame cause f) (SetCell n c) r ne (inl h) =
    ap (λ l. record r { frame = f; cells = l }) (set-resized (f.base + f.sof) r.cells n c h.1.0)
commute (SetFrame cause f) (SetCell n c) r ne (inr h) = absurd (h.0 refl)
commute (SetPredicate n c) (SetPredicate m d) r ne h =
    ap (λ l. record r { predicates = l }) (set-set_other r.predicates n m c d (λ e. ne (ap PredicateAt e)))
commute (SetBranch n c) (SetBranch m d) r ne h =
    ap (λ l. record r { branches = l }) (set-set_other r.branches n m c d (λ e. ne (ap BranchAt e)))
commute (SetUnat a) (SetUnat b) r ne h = absurd (ne refl)
commute (SetPfs a) (SetPfs b) r ne h = absurd (ne refl)
commute (SetLc a) (SetLc b) r ne h = absurd (ne refl)
commute (SetEc a) (SetEc b) r ne h = absurd (ne refl)
commute (SetFrame cause a) (SetFrame because b) r ne h = absurd (ne refl)
commute _ _ r ne h = refl

fits_flip : (v w : Write) → FitsBeside v w → FitsBeside w v
fits_flip v w (inl h) = inl (λ e. h (sym e))
fits_flip v w (inr h) = inr ((λ e. h.0 (ap location h.1 ∙ e)), sym h.1)

each_taken : {X : Type 0} (P : X → Type 0) (x : X) (xs : List X) (n : ℕ) → Each P (x ∷ xs) → P (item_at x xs n)
each_taken P x [] n h = h.0
each_taken P x (y ∷ ys) zero h = h.0
each_taken P x (y ∷ ys) (suc n) h = each_taken P y ys n h.1

each_left : {X : Type 0} (P : X → Type 0) (x : X) (xs : List X) (n : ℕ) → Each P (x ∷ xs) → Each P (others x xs n)
each_left P x [] n h = tt
each_left P x (y ∷ ys) zero h = h.1
each_left P x (y ∷ ys) (suc n) h = (h.0, each_left P y ys n h.1)

fit_taken : (x : Write) (xs : List Write) (n : ℕ) → FitTogether (x ∷ xs) → Each (FitsBeside (item_at x xs n)) (others x xs n)
fit_taken x [] n h = tt
fit_taken x (y ∷ ys) zero h = h.0
fit_taken x (y ∷ ys) (suc n) h = (fits_flip _ _ (each_taken (FitsBeside x) y ys n h.0), fit_taken y ys n h.1)

fit_left : (x : Write) (xs : List Write) (n : ℕ) → FitTogether (x ∷ xs) → FitTogether (others x xs n)
fit_left x [] n h = tt
fit_left x (y ∷ ys) zero h = h.1
fit_left x (y ∷ ys) (suc n) h = (each_left (FitsBeside x) y ys n h.0, fit_left y ys n h.1)

-- The cells keep their number but under a frame.
length_put : (w : Write) (r : Registers) → IsNoFrame w → length (put w r).cells ≡ length r.cells
length_put (SetCell n c) r h = length-set r.cells n c
length_put (SetFrame cause f) r h = absurd (h refl)
length_put _ r h = refl

each_inside : (w : Write) (r : Registers) (ws : List Write) → IsNoFrame w → Each (IsCellBelow (length r.cells)) ws
    → Each (IsCellBelow (length (put w r).cells)) ws
each_inside w r ws h e = rw (length_put w r h) e

no_frame_follows : (w : Write) → location w ≡ TheFrame → (v : Write) → FitsBeside w v → IsNoFrame v
no_frame_follows w e v (inl h) = λ q. h (e ∙ sym q)
no_frame_follows w e v (inr h) = absurd (h.0 e)

is_frame : (w : Write) → (location w ≡ TheFrame) ⊎ IsNoFrame w
is_frame (SetFrame cause f) = inl refl
is_frame (SetCell n c) = inr (λ e. cc)
is_frame _ = inr (λ e. cc)

pub ready_tail : (w : Write) (ws : List Write) (r : Registers) → Each (FitsBeside w) ws → IsReady r (w ∷ ws) → IsReady (put w r) ws
ready_tail w ws r f (inr h) = inr h.1
ready_tail w ws r f (inl h) = go (is_frame w)
  where
    go : (location w ≡ TheFrame) ⊎ IsNoFrame w → IsReady (put w r) ws
    go (inl e) = inr (each_map (FitsBeside w) IsNoFrame (no_frame_follows w e) ws f)
    go (inr n) = inl (each_inside w r ws n h.1)

ready_two : (x : Write) (xs : List Write) (n : ℕ) (v : Write) (r : Registers) → IsReady r (v ∷ x ∷ xs) → IsReady r (item_at x xs n ∷ v ∷ [])
ready_two x xs n v r (inl h) = inl (each_taken (IsCellBelow (length r.cells)) x xs n h.1, (h.0, tt))
ready_two x xs n v r (inr h) = inr (each_taken IsNoFrame x xs n h.1, (h.0, tt))

pub ready_left : (x : Write) (xs : List Write) (n : ℕ) (r : Registers) → IsReady r (x ∷ xs) → IsReady r (item_at x xs n ∷ others x xs n)
ready_left x xs n r (inl h) = inl (each_taken (IsCellBelow (length r.cells)) x xs n h, each_left (IsCellBelow (length r.cells)) x xs n h)
ready_left x xs n r (inr h) = inr (each_taken IsNoFrame x xs n h, each_left IsNoFrame x xs n h)

swap_two : (v w : Write) (r : Registers) → FitsBeside v w → IsReady r (v ∷ w ∷ []) → put w (put v r) ≡ put v (put w r)
swap_two v w r (inl ne) h = commute v w r ne h
swap_two v w r (inr e) h = rw e.1 refl

-- An item that is item_at from the middle and made first.
pub front : (x : Write) (xs : List Write) (n : ℕ) (r : Registers) → FitTogether (x ∷ xs) → IsReady r (x ∷ xs)
    → apply (item_at x xs n ∷ others x xs n) r ≡ apply (x ∷ xs) r
front x [] n r f h = refl
front x (y ∷ ys) zero r f h = refl
front x (y ∷ ys) (suc n) r f h =
    ap (apply (others y ys n)) (swap_two (item_at y ys n) x r (fits_flip _ _ (each_taken (FitsBeside x) y ys n f.0))
    (ready_two y ys n x r h))
    ∙ front y ys n (put x r) f.1 (ready_tail x (y ∷ ys) r f.0 h)

orders_within : (n : ℕ) (code : List ℕ) (ws : List Write) (r : Registers) → FitTogether ws → IsReady r ws
    → apply (arranged_within n code ws) r ≡ apply ws r
orders_within zero code ws r f h = refl
orders_within (suc n) code [] r f h = refl
orders_within (suc n) code (x ∷ xs) r f h =
    orders_within n (tail_of code) (others x xs k) (put (item_at x xs k) r) (fit_left x xs k f)
    (ready_tail (item_at x xs k) (others x xs k) r (fit_taken x xs k f) (ready_left x xs k r h))
    ∙ front x xs k r f h
  where
    k : ℕ
    k = head_of code % length (x ∷ xs)

-- Every order that a code can name gives the state of program order.
pub orders : (code : List ℕ) (ws : List Write) (r : Registers) → FitTogether ws → IsReady r ws → apply (arranged code ws) r ≡ apply ws r
orders code ws r f h = orders_within (length ws) code ws r f h

-- The list of frames does not depend on the order either.
frames_cons : (x : Write) (us vs : List Write) → frame_changes us ≡ frame_changes vs → frame_changes (x ∷ us) ≡ frame_changes (x ∷ vs)
frames_cons (SetFrame Resized f) us vs e = ap (λ t. (f.base, f.base + f.sof) ∷ t) e
frames_cons (SetFrame Renamed f) us vs e = e
frames_cons (SetCell n c) us vs e = e
frames_cons _ us vs e = e

frames_none : (x : Write) (l : List Write) → IsNoFrame x → frame_changes (x ∷ l) ≡ frame_changes l
frames_none (SetFrame cause f) l h = absurd (h refl)
frames_none (SetCell n c) l h = refl
frames_none _ l h = refl

frames_swap : (x y : Write) (l : List Write) → FitsBeside x y → frame_changes (x ∷ y ∷ l) ≡ frame_changes (y ∷ x ∷ l)
frames_swap x y l (inr h) = rw h.1 refl
frames_swap x y l (inl h) = go (is_frame x) (is_frame y)
  where
    go : (location x ≡ TheFrame) ⊎ IsNoFrame x → (location y ≡ TheFrame) ⊎ IsNoFrame y
        → frame_changes (x ∷ y ∷ l) ≡ frame_changes (y ∷ x ∷ l)
    go (inl a) (inl b) = absurd (h (a ∙ sym b))
    go (inr a) b = frames_none x (y ∷ l) a ∙ sym (frames_cons y (x ∷ l) l (frames_none x l a))
    go (inl a) (inr b) = frames_cons x (y ∷ l) l (frames_none y l b) ∙ sym (frames_none y (x ∷ l) b)

frames_front : (x : Write) (xs : List Write) (n : ℕ) → FitTogether (x ∷ xs)
    → frame_changes (item_at x xs n ∷ others x xs n) ≡ frame_changes (x ∷ xs)
frames_front x [] n h = refl
frames_front x (y ∷ ys) zero h = refl
frames_front x (y ∷ ys) (suc n) h =
    frames_swap (item_at y ys n) x (others y ys n) (fits_flip _ _ (each_taken (FitsBeside x) y ys n h.0))
    ∙ frames_cons x (item_at y ys n ∷ others y ys n) (y ∷ ys) (frames_front y ys n h.1)

pub frames_within : (n : ℕ) (code : List ℕ) (ws : List Write) → FitTogether ws
    → frame_changes (arranged_within n code ws) ≡ frame_changes ws
frames_within zero code ws h = refl
frames_within (suc n) code [] h = refl
frames_within (suc n) code (x ∷ xs) h =
    frames_cons (item_at x xs (head_of code % length (x ∷ xs))) _ (others x xs (head_of code % length (x ∷ xs)))
    (frames_within n (tail_of code) (others x xs (head_of code % length (x ∷ xs))) (fit_left x xs (head_of code % length (x ∷ xs)) h))
    ∙ frames_front x xs (head_of code % length (x ∷ xs)) h

pub frames : (code : List ℕ) (ws : List Write) → FitTogether ws → frame_changes (arranged code ws) ≡ frame_changes ws
frames code ws h = frames_within (length ws) code ws h
