-- What is written so far.
use Rattle.std.proofs.Common.{◌≡◌, ℕ, ◌+◌, ◌<◌, List, [], ◌∷◌, ◌++◌, length, get_or, take, Some, slice_get, refl, sym, ap, ◌∙◌, append_assoc}
use Rattle.std.proofs.lemmas.List.{append-nil, take_more}
use Rattle.std.proofs.lemmas.Option.{get_or_from_slice_get}
use Rattle.e57_pieces.specs.declared.piece.Attr.{Attr}
use Rattle.e57_elements.specs.Spelling.{value_byte, written, attrs_spelling}

pub written-append : (byte : ℕ → List ℕ) (xs ys : List ℕ) → written byte (xs ++ ys) ≡ written byte xs ++ written byte ys
written-append byte [] ys = refl
written-append byte (x ∷ xs) ys = ap (λ t. byte x ++ t) (written-append byte xs ys) ∙ sym (append_assoc (byte x) (written byte xs) (written byte ys))

-- one more byte
pub written_more : (byte : ℕ → List ℕ) (xs : List ℕ) (i : ℕ) (before now new : List ℕ) → i < length xs
    → now ≡ before ++ written byte (take i xs) → new ≡ now ++ byte (get_or xs i 0) → new ≡ before ++ written byte (take (i + 1) xs)
written_more byte xs i before now new within so_far next =
    next
    ∙ ap (λ t. t ++ byte (get_or xs i 0)) so_far
    ∙ append_assoc before (written byte (take i xs)) (byte (get_or xs i 0))
    ∙ ap (λ t. before ++ t)
    (sym (ap (written byte) (take_more xs i 0 within)
    ∙ written-append byte (take i xs) (get_or xs i 0 ∷ [])
    ∙ ap (λ t. written byte (take i xs) ++ t) (append-nil (byte (get_or xs i 0)))))

pub attrs_spelling-append : (xs ys : List Attr) → attrs_spelling (xs ++ ys) ≡ attrs_spelling xs ++ attrs_spelling ys
attrs_spelling-append [] ys = refl
attrs_spelling-append (x ∷ xs) ys =
    let front = written value_byte x.value in
    ap (λ t. 32 ∷ (x.name ++ (61 ∷ 34 ∷ (front ++ (34 ∷ t))))) (attrs_spelling-append xs ys)
    ∙ ap (λ t. 32 ∷ (x.name ++ (61 ∷ 34 ∷ t))) (sym (append_assoc front (34 ∷ attrs_spelling xs) (attrs_spelling ys)))
    ∙ ap (λ t. 32 ∷ t) (sym (append_assoc x.name (61 ∷ 34 ∷ (front ++ (34 ∷ attrs_spelling xs))) (attrs_spelling ys)))

-- one more attribute
pub attrs_more : (xs : List Attr) (i : ℕ) (x : Attr) (before now new : List ℕ) → i < length xs → slice_get xs i ≡ Some x
    → now ≡ before ++ attrs_spelling (take i xs) → new ≡ now ++ attrs_spelling (x ∷ []) → new ≡ before ++ attrs_spelling (take (i + 1) xs)
attrs_more xs i x before now new within found so_far next =
    next
    ∙ ap (λ t. t ++ attrs_spelling (x ∷ [])) so_far
    ∙ append_assoc before (attrs_spelling (take i xs)) (attrs_spelling (x ∷ []))
    ∙ ap (λ t. before ++ t)
    (sym (ap attrs_spelling (take_more xs i x within ∙ ap (λ y. take i xs ++ y ∷ []) (get_or_from_slice_get xs i x x found))
    ∙ attrs_spelling-append (take i xs) (x ∷ [])))
