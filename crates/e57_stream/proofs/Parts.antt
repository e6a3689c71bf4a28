-- A part of a buffer that is read into.
use Rattle.std.proofs.Common.{◌≡◌, ℕ, ◌+◌, ◌-◌, ◌<◌, ◌≤◌, List, ◌++◌, length, get_or, take, drop, refl, sym, subst, ap, ◌∙◌, arith, ⊎_elim, get_or-take, length-append}
use Rattle.std.proofs.lemmas.Bool.{cases_lt}
use Rattle.std.proofs.lemmas.List.{length-take, length-drop, get_or-drop, get_or_append_left, get_or-append-add}
use borrow.Rule.Slice.PartMut.{put_mid}

-- an element of a list whose part from n on was changed
pub part_before : {A : Type 0} (xs ys : List A) (n k j : ℕ) (d : A) → n ≤ length xs → j < n → get_or (put_mid n k xs ys) j d ≡ get_or xs j d
part_before xs ys n k j d room below =
    let size : length (take n xs) ≡ n = length-take n xs ∙ omega (arith, room) in
    get_or_append_left (take n xs) (ys ++ drop k (drop n xs)) d j (omega (arith, size, below)) ∙ rw get_or-take refl

pub part_in : {A : Type 0} (xs ys : List A) (n k j : ℕ) (d : A) → n ≤ length xs → j < length ys → get_or (put_mid n k xs ys) (n + j) d ≡ get_or ys j d
part_in xs ys n k j d room below =
    let size : length (take n xs) ≡ n = length-take n xs ∙ omega (arith, room) in
    let place : n + j ≡ length (take n xs) + j = omega (arith, size) in
    ap (λ (i : ℕ). get_or (put_mid n k xs ys) i d) place ∙ get_or-append-add (take n xs) (ys ++ drop k (drop n xs)) j d ∙ get_or_append_left ys (drop k (drop n xs)) d j below

pub part_behind : {A : Type 0} (xs ys : List A) (n k j : ℕ) (d : A) → n ≤ length xs → length ys ≡ k → get_or (put_mid n k xs ys) (n + (k + j)) d ≡ get_or xs (n + (k + j)) d
part_behind xs ys n k j d room size_too =
    let size : length (take n xs) ≡ n = length-take n xs ∙ omega (arith, room) in
    let place : n + (k + j) ≡ length (take n xs) + (length ys + j) = omega (arith, size, size_too) in
    ap (λ (i : ℕ). get_or (put_mid n k xs ys) i d) place ∙ get_or-append-add (take n xs) (ys ++ drop k (drop n xs)) (length ys + j) d ∙ get_or-append-add ys (drop k (drop n xs)) j d
    ∙ get_or-drop k (drop n xs) j d ∙ get_or-drop n xs (k + j) d

pub length-part : {A : Type 0} (xs ys : List A) (n k : ℕ) → n + k ≤ length xs → length ys ≡ k → length (put_mid n k xs ys) ≡ length xs
length-part xs ys n k room size =
    let front : length (take n xs) ≡ n = length-take n xs ∙ omega (arith, room) in
    let rest : length (drop k (drop n xs)) ≡ length xs - n - k = length-drop k (drop n xs) ∙ ap (λ (i : ℕ). i - k) (length-drop n xs) in
    length-append (take n xs) (ys ++ drop k (drop n xs)) ∙ ap (λ (i : ℕ). length (take n xs) + i) (length-append ys (drop k (drop n xs))) ∙ omega (arith, front, rest, room, size)

pub length_of_part : {A : Type 0} (xs part : List A) (want n : ℕ) → n ≤ want → want ≤ length xs → part ≡ take (want - n) (drop n xs) → length part ≡ want - n
length_of_part {A} xs part want n few room is =
    let size = length-drop n xs in
    ap (λ (l : List A). length l) is ∙ length-take (want - n) (drop n xs) ∙ omega (arith, size, few, room)

-- what lies behind the places that were filled is as it was
pub rest_on : {A : Type 0} (want n m j : ℕ) (out0 out1 part part' : List A) (d : A) → n ≤ want → want ≤ length out1 → part ≡ take (want - n) (drop n out1) → length part' ≡ length part
    → ((i : ℕ) → n ≤ i → get_or out1 i d ≡ get_or out0 i d) → ((i : ℕ) → m ≤ i → get_or part' i d ≡ get_or part i d) → n + m ≤ j → get_or (put_mid n (want - n) out1 part') j d ≡ get_or out0 j d
rest_on {A} want n m j out0 out1 part part' d few room is same_length front back past = rest
  where
    begin : n ≤ length out1
    begin = omega (arith, few, room)

    size : length part' ≡ want - n
    size = same_length ∙ length_of_part out1 part want n few room is

    inside : j < want → get_or (put_mid n (want - n) out1 part') (n + (j - n)) d ≡ get_or out1 (n + (j - n)) d
    inside below =
        let there : j - n < want - n = omega (arith, past, below) in
        part_in out1 part' n (want - n) (j - n) d begin (omega (arith, there, size))
        ∙ back (j - n) (omega (arith, past)) ∙ ap (λ (l : List A). get_or l (j - n) d) is ∙ rw get_or-take (get_or-drop n out1 (j - n) d)

    rest : get_or (put_mid n (want - n) out1 part') j d ≡ get_or out0 j d
    rest = ⊎_elim
        (λ (below : j < want).
        let e : n + (j - n) ≡ j = omega (arith, past) in
        subst (λ (i : ℕ). get_or (put_mid n (want - n) out1 part') i d ≡ get_or out1 i d) e (inside below) ∙ front j (omega (arith, past)))
        (λ (behind : want ≤ j).
        let e : n + (want - n + (j - want)) ≡ j = omega (arith, behind, few) in
        subst (λ (i : ℕ). get_or (put_mid n (want - n) out1 part') i d ≡ get_or out1 i d) e (part_behind out1 part' n (want - n) (j - want) d begin size) ∙ front j (omega (arith, past)))
        (cases_lt j want)

-- an element behind a front that was replaced
pub behind_front : {A : Type 0} (out part : List A) (n k : ℕ) (d : A) → length part ≡ n → n ≤ k → get_or (part ++ drop n out) k d ≡ get_or out k d
behind_front out part n k d size past =
    let e : length part + (k - n) ≡ k = omega (arith, size, past) in
    let f : n + (k - n) ≡ k = omega (arith, past) in
    ap (λ (i : ℕ). get_or (part ++ drop n out) i d) (sym e) ∙ get_or-append-add part (drop n out) (k - n) d ∙ get_or-drop n out (k - n) d ∙ ap (λ (i : ℕ). get_or out i d) f

pub length_front : {A : Type 0} (out part : List A) (n : ℕ) → length part ≡ n → n ≤ length out → length (part ++ drop n out) ≡ length out
length_front out part n size room =
    let rest : length (drop n out) ≡ length out - n = length-drop n out in
    length-append part (drop n out) ∙ omega (arith, size, rest, room)
