-- The text of the tree is its written spelling.
use Rattle.std.proofs.Common.{◌≡◌, ℕ, ◌++◌, ◌<◌, ◌≤◌, ◌^◌, List, [], ◌∷◌, length, refl, ap, ◌∙◌, arith, append_assoc, lit≤}
use Rattle.std.specs.Prelude.{codes, decimal}
use Rattle.std.proofs.lemmas.Bool.{ne_eqb}
use Rattle.std.proofs.lemmas.Fmt.{length-decimal-le}
use Rattle.std.proofs.lemmas.List.{append-nil, length-append}
use Rattle.e57_elements.specs.Tree.{Element, element}
use Rattle.e57_elements.specs.Spelling.{spelling, element_spelling, text_byte, value_byte, written}
use Rattle.e57_nodes.specs.Facts.{type_in, type_named, value_of}
use Rattle.e57_nodes.specs.Places.{stated_place, with_places, with_value}
use Rattle.e57_nodes.proofs.Laws.Decimals.{IsDigit, AreDigits, decimal_writes}
use Rattle.e57_trial.specs.Content.{attr, only, prototype, trial_tree}
use Rattle.e57_trial.specs.Text.{text_front, text_behind}

-- ---- the tree with any texts in place of the offset and the number of records

abbrev pub points_with : List ℕ → List ℕ → Element
points_with place text =
    element (codes "points")
    (attr (codes "type") (codes "CompressedVector") ∷ attr (codes "fileOffset") place ∷ attr (codes "recordCount") text ∷ [])
    [] (only prototype)

abbrev pub tree_with : List ℕ → List ℕ → Element
tree_with place text =
    element (codes "e57Root")
    (attr (codes "type") (codes "Structure") ∷ attr (codes "xmlns") (codes "http://www.astm.org/COMMIT/E57/2010-e57-v1.0") ∷ [])
    []
    (only (element (codes "data3D") (attr (codes "type") (codes "Vector") ∷ []) []
    (only (element (codes "vectorChild") (attr (codes "type") (codes "Structure") ∷ []) [] (only (points_with place text))))))

pub tree_is : (count : ℕ) → trial_tree count ≡ tree_with (codes "0") (decimal count)
unfolding trial_tree
tree_is count = refl

pub placed_with : (place other text : List ℕ) → with_places (place ∷ []) (tree_with other text) ≡ tree_with place text
unfolding type_in type_named value_of stated_place with_value
placed_with place other text = refl

-- ---- its spelling

digit_plain : (b : ℕ) → IsDigit b → value_byte b ≡ b ∷ []
unfolding value_byte text_byte
digit_plain b is =
    let low = is.low in
    let high = is.high in
    rw (
      ne_eqb b 34 (λ e. absurd (omega arith)),
      ne_eqb b 9 (λ e. absurd (omega arith)),
      ne_eqb b 10 (λ e. absurd (omega arith)),
      ne_eqb b 38 (λ e. absurd (omega arith)),
      ne_eqb b 60 (λ e. absurd (omega arith)),
      ne_eqb b 62 (λ e. absurd (omega arith)),
      ne_eqb b 13 (λ e. absurd (omega arith)),
    )
    refl

digits_plain : (text : List ℕ) → AreDigits text → written value_byte text ≡ text
digits_plain [] are = refl
digits_plain (b ∷ bs) are = ap (λ (front : List ℕ). front ++ written value_byte bs) (digit_plain b are.0) ∙ ap (λ (rest : List ℕ). b ∷ rest) (digits_plain bs are.1)

decimal_plain : (n : ℕ) → n < 2 ^ 64 → written value_byte (decimal n) ≡ decimal n
decimal_plain n small = digits_plain (decimal n) (decimal_writes n small).digits

-- what stands of the cloud before the offset, before the number of records, and behind it
abbrev points_front : List ℕ
points_front = codes "<points type=\"CompressedVector\" fileOffset=\""

abbrev points_middle : List ℕ
points_middle = codes " recordCount=\""

abbrev points_rest : List ℕ
points_rest =
    codes "><prototype type=\"Structure\">"
    ++ codes "<cartesianX type=\"ScaledInteger\" minimum=\"0\" maximum=\"1048575\" scale=\"0.001\" offset=\"0\"/>"
    ++ codes "<cartesianY type=\"ScaledInteger\" minimum=\"0\" maximum=\"1048575\" scale=\"0.001\" offset=\"0\"/>"
    ++ codes "<intensity type=\"Integer\" minimum=\"0\" maximum=\"255\"/>"
    ++ codes "<rowIndex type=\"Integer\" minimum=\"0\" maximum=\"0\"/>"
    ++ codes "<cartesianZ type=\"Float\" precision=\"single\"/>"
    ++ codes "<tag type=\"String\"/>"
    ++ codes "</prototype></points>"

-- from the offset on
abbrev points_tail : List ℕ → List ℕ → List ℕ
points_tail place text = place ++ 34 ∷ (points_middle ++ (text ++ 34 ∷ points_rest))

points_spelled : (place text : List ℕ) → written value_byte place ≡ place → written value_byte text ≡ text → element_spelling (points_with place text) ≡ points_front ++ points_tail place text
unfolding value_byte text_byte
points_spelled place text plain_place plain_text =
    ap (λ (p : List ℕ). points_front ++ ((p ++ 34 ∷ (points_middle ++ (written value_byte text ++ 34 ∷ []))) ++ points_rest)) plain_place
    ∙ ap (λ (t : List ℕ). points_front ++ ((place ++ 34 ∷ (points_middle ++ (t ++ 34 ∷ []))) ++ points_rest)) plain_text
    ∙ ap (λ (xs : List ℕ). points_front ++ xs) (append_assoc place (34 ∷ (points_middle ++ (text ++ 34 ∷ []))) points_rest)
    ∙ ap (λ (xs : List ℕ). points_front ++ (place ++ 34 ∷ (points_middle ++ xs))) (append_assoc text (34 ∷ []) points_rest)

-- between tags
within : (begin front inner end : List ℕ) → begin ++ (((front ++ inner) ++ []) ++ end) ≡ (begin ++ front) ++ (inner ++ end)
within begin front inner end = simp (append_assoc, append-nil)

-- before the offset
abbrev tree_front : List ℕ
tree_front =
    codes "<?xml version=\"1.0\" encoding=\"UTF-8\"?>\n<e57Root type=\"Structure\" xmlns=\"http://www.astm.org/COMMIT/E57/2010-e57-v1.0\"><data3D type=\"Vector\"><vectorChild type=\"Structure\"><points type=\"CompressedVector\" fileOffset=\""

abbrev tree_end : List ℕ
tree_end = codes "</vectorChild></data3D></e57Root>"

spelled_with : (place text : List ℕ) → written value_byte place ≡ place → written value_byte text ≡ text → spelling (tree_with place text) ≡ tree_front ++ (points_tail place text ++ tree_end)
unfolding value_byte text_byte
spelled_with place text plain_place plain_text =
    let child = codes "<vectorChild type=\"Structure\">" in
    let child_end = codes "</vectorChild>" in
    let scans = codes "<data3D type=\"Vector\">" in
    let scans_end = codes "</data3D>" in
    let root = codes "<?xml version=\"1.0\" encoding=\"UTF-8\"?>\n<e57Root type=\"Structure\" xmlns=\"http://www.astm.org/COMMIT/E57/2010-e57-v1.0\">" in
    let root_end = codes "</e57Root>" in
    let tail = points_tail place text in
    ap (λ (xs : List ℕ). root ++ (((scans ++ (((child ++ ((xs ++ []) ++ child_end)) ++ []) ++ scans_end)) ++ []) ++ root_end)) (points_spelled place text plain_place plain_text)
    ∙ ap (λ (xs : List ℕ). root ++ (((scans ++ ((xs ++ []) ++ scans_end)) ++ []) ++ root_end)) (within child points_front tail child_end)
    ∙ ap (λ (xs : List ℕ). root ++ ((xs ++ []) ++ root_end)) (within scans (child ++ points_front) (tail ++ child_end) scans_end)
    ∙ within root (scans ++ (child ++ points_front)) ((tail ++ child_end) ++ scans_end) root_end
    ∙ ap (λ (xs : List ℕ). tree_front ++ xs) (append_assoc (tail ++ child_end) scans_end root_end ∙ append_assoc tail child_end (scans_end ++ root_end))

pub spelled : (count : ℕ) → count < 2 ^ 64 → spelling (trial_tree count) ≡ text_front ++ (decimal count ++ text_behind)
unfolding value_byte text_byte
spelled count small =
    ap spelling (tree_is count)
    ∙ spelled_with (codes "0") (decimal count) refl (decimal_plain count small)
    ∙ ap (λ (xs : List ℕ). text_front ++ xs) (append_assoc (decimal count) (34 ∷ points_rest) tree_end)

-- ---- how long it is

length_decimal : (n : ℕ) → n < 2 ^ 64 → length (decimal n) ≤ 20
length_decimal n small = length-decimal-le 20 n (omega arith) (omega (arith, small)) small

pub spelled_short : (place count : ℕ) → place < 2 ^ 64 → count < 2 ^ 64 → length (spelling (with_places (decimal place ∷ []) (trial_tree count))) ≤ 1000
spelled_short place count small few =
    let a = decimal place in
    let b = decimal count in
    let is = ap (λ (e : Element). length (spelling (with_places (a ∷ []) e))) (tree_is count)
    ∙ ap (λ (e : Element). length (spelling e)) (placed_with a (codes "0") b)
    ∙ ap (λ (xs : List ℕ). length xs) (spelled_with a b (decimal_plain place small) (decimal_plain count few)) in
    let front : length tree_front ≤ 250 = lit≤ tt in
    let middle : length points_middle ≤ 50 = lit≤ tt in
    let rest : length points_rest ≤ 450 = lit≤ tt in
    let end : length tree_end ≤ 50 = lit≤ tt in
    let first = length-append tree_front (points_tail a b ++ tree_end) in
    let second = length-append (points_tail a b) tree_end in
    let third = length-append a (34 ∷ (points_middle ++ (b ++ 34 ∷ points_rest))) in
    let fourth = length-append points_middle (b ++ 34 ∷ points_rest) in
    let fifth = length-append b (34 ∷ points_rest) in
    let x = length_decimal place small in
    let y = length_decimal count few in
    omega (arith, is, first, second, third, fourth, fifth, front, middle, rest, end, x, y)
