-- Laws of fields side by side.
use Rattle.std.proofs.Common.{◌≡◌, ℕ, zero, suc, ◌-◌, ◌<◌, ◌≤◌, true, false, List, [], ◌∷◌, ◌++◌, length, map, take, drop, get_or, sym, ap, subst, ◌∙◌, arith, inl, inr, ⊎_elim, Bool}
use Rattle.std.specs.List.{AllByRecursion}
use Rattle.std.proofs.lemmas.Bool.{cases_lt, le-leb, lt-leb}
use Rattle.std.proofs.lemmas.List.{length-map, get_or-map, drop_more, append-nil, take_all, drop_all, get_or-append_right, length-take-le, length-append, length-drop}
use Rattle.e57_layout.specs.Packets.{total, data_size}
use Rattle.e57_layout.specs.Packing.{fits_packet, room_for}
use Rattle.e57_layout.specs.Values.{strings}
use Rattle.e57_layout.proofs.Laws.Layouts.{data_size_is}
use Rattle.e57_chunk_out.specs.Waiting.{Waiting, taken}
use Rattle.e57_chunk_out.specs.Cutting.{streams_of}
use Rattle.e57_chunk_out.specs.SideBySide.{Has, HasText}
use Rattle.e57_chunk_out.proofs.Cuts.{total-take, length-streams}

pub all-at : {A : Type 0} (P : A → Type 0) (xs : List A) (k : ℕ) (d : A) → AllByRecursion P xs → k < length xs → P (get_or xs k d)
all-at P [] k d h g = absurd (omega arith)
all-at P (x ∷ xs) zero d h g = h.0
all-at P (x ∷ xs) (suc k) d h g = all-at P xs k d h.1 (omega arith)

-- an item that was read
pub read-all : {A : Type 0} (P : A → Type 0) (xs : List A) (k : ℕ) (x : A) → AllByRecursion P xs → k < length xs → x ≡ get_or xs k x → P x
read-all P xs k x h g is = subst P (sym is) (all-at P xs k x h g)

pub has-less : (n m : ℕ) (ws : List Waiting) → m ≤ n → AllByRecursion (Has n) ws → AllByRecursion (Has m) ws
has-less n m [] l h = tt
has-less n m (w ∷ ws) l h = (omega (arith, h.0), has-less n m ws l h.1)

pub has-text : (ws : List Waiting) (k : ℕ) (w : Waiting) → k < length ws → w ≡ get_or ws k w → w.kind ≡ strings → HasText ws
has-text [] k w h is e = absurd (omega arith)
has-text (x ∷ ws) zero w h is e = inl (ap (λ (v : Waiting). v.kind) (sym is) ∙ e)
has-text (x ∷ ws) (suc k) w h is e = inr (has-text ws k w (omega arith) is e)

-- ---- fitting

-- the streams with the new items
abbrev pub grown : ℕ → ℕ → List Waiting → List (List ℕ)
grown from n fields = streams_of (map (taken from n) fields)

pub length-grown : (from n : ℕ) (fields : List Waiting) → length (grown from n fields) ≡ length fields
length-grown from n fields = length-streams (map (taken from n) fields) ∙ length-map fields (taken from n)

pub grown-at : (from n : ℕ) (fields : List Waiting) (k : ℕ) (w : Waiting) → k < length fields → w ≡ get_or fields k w → get_or (grown from n fields) k [] ≡ (taken from n w).stream
grown-at from n fields k w h is =
    let many : k < length (map (taken from n) fields) = rw (length-map fields (taken from n)) h in
    get_or-map (λ (v : Waiting). v.stream) (map (taken from n) fields) k (taken from n w) [] many
    ∙ ap (λ (v : Waiting). v.stream) (get_or-map (taken from n) fields k w (taken from n w) h ∙ ap (taken from n) (sym is))

pub over-false : (ss : List (List ℕ)) (n k : ℕ) → length ss ≡ n → n ≤ 512 → room_for n < total (take k ss) → fits_packet ss ≡ false
unfolding fits_packet
over-false ss n k h few over =
    let size = data_size_is ss in
    let most = total-take ss k in
    lt-leb (data_size ss) 65536 (omega arith)

pub within-true : (ss : List (List ℕ)) (n : ℕ) → length ss ≡ n → n ≤ 512 → total ss ≤ room_for n → fits_packet ss ≡ true
unfolding fits_packet
within-true ss n h few within =
    let size = data_size_is ss in
    le-leb (data_size ss) 65536 (omega arith)

-- streams that don't fit have many bytes
pub over-total : (ss : List (List ℕ)) (n : ℕ) → length ss ≡ n → n ≤ 512 → fits_packet ss ≡ false → room_for n < total ss
over-total ss n h few over = ⊎_elim (λ more. more) (λ within. absurd (no-fit (sym (within-true ss n h few (omega (arith, within))) ∙ over))) (cases_lt (room_for n) (total ss)) where
  no-fit : true ≡ false → ⊥
  no-fit e = subst if_so e tt where
    if_so : Bool → Type 0
    if_so true = Unit {0}
    if_so false = ⊥

-- ---- each field in turn

-- after the first k
pub at-behind : {A : Type 0} (f : A → A) (xs ys : List A) (k : ℕ) (x : A) → k < length xs → ys ≡ map f (take k xs) ++ drop k xs → x ≡ get_or ys k x → x ≡ get_or xs k x
at-behind f xs ys k x h is e =
    let size : length (map f (take k xs)) ≡ k = length-map (take k xs) f ∙ length-take-le k xs (omega arith) in
    e
    ∙ ap (λ zs. get_or zs k x) is
    ∙ get_or-append_right (map f (take k xs)) (drop k xs) k k x size (omega arith)
    ∙ ap (λ n. get_or (drop k xs) n x) (none k)
    ∙ ap (λ zs. get_or zs 0 x) (drop_more xs k x h)
  where
    none : (k : ℕ) → k - k ≡ 0
    none k = omega arith

pub length-behind_mapped : {A : Type 0} (f : A → A) (xs ys : List A) (k : ℕ) → k ≤ length xs → ys ≡ map f (take k xs) ++ drop k xs → length ys ≡ length xs
length-behind_mapped f xs ys k h is =
    let front : length (map f (take k xs)) ≡ k = length-map (take k xs) f ∙ length-take-le k xs h in
    ap (λ zs. length zs) is ∙ length-append (map f (take k xs)) (drop k xs) ∙ omega (arith, front, length-drop k xs)

pub mapped-all : {A : Type 0} (f : A → A) (xs ys : List A) (k : ℕ) → length xs ≤ k → ys ≡ map f (take k xs) ++ drop k xs → ys ≡ map f xs
mapped-all f xs ys k h is = is ∙ ap (λ zs. map f zs ++ drop k xs) (take_all k xs h) ∙ ap (λ zs. map f xs ++ zs) (drop_all k xs h) ∙ append-nil (map f xs)
