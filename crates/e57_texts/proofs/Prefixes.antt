-- The prefix that some bytes begin with.
use Rattle.std.proofs.Common.{◌≡◌, ℕ, ◌%◌, ◌<◌, ◌≤◌, ◌==◌, Bool, true, false, if◌then◌else◌, List, [], ◌∷◌, ◌++◌, length, take, drop, get_or, ◌/◌, eq-eqb, sym, ap, subst, ◌∙◌, arith}
use Rattle.std.proofs.lemmas.Bool.{cond-true, lt-ltb, le-ltb}
use Rattle.std.proofs.lemmas.List.{take-append-drop}
use Rattle.e57_layout.specs.Strings.{string_limit, prefix_found, prefix_too_long, prefix_cut_off, within_limit, first_prefix}
use Rattle.e57_strings.specs.Progress.{Progress, in_prefix, prefix_size}
use Rattle.e57_strings.specs.Feeds.{Feeds}
use Rattle.e57_strings.specs.Holds.{Reads}
use Rattle.e57_strings.proofs.HoldsLaws.{first_prefix-unfinished, Holds-none, Feeds-reads}
use Rattle.e57_strings.specs.declared.cursor.Fed.TheVariants.{More, Length, Whole}
use Rattle.e57_texts.specs.Prefix.{StatesLength}

size-most : (xs : List ℕ) → prefix_size xs ≤ 8
size-most xs = either (get_or xs 0 0 % 2 == 0)
  where
    either : (t : Bool) → (if t then 1 else 8) ≤ 8
    either true = omega arith
    either false = omega arith

-- the bytes ended within a prefix
pub cut : (p : Progress) (bytes old : List ℕ) (taken : ℕ) (after : Progress) (new : List ℕ) → p ≡ in_prefix [] → Feeds p bytes old (More taken) after new → (first_prefix bytes ≡ prefix_cut_off) × (length bytes < 8)
cut p bytes old taken after new e f =
    let g : Feeds (in_prefix []) bytes old (More taken) after new = subst (λ (q : Progress). Feeds q bytes old (More taken) after new) e f in
    let short : length bytes < prefix_size bytes = g.0.unfinished in
    let most = size-most bytes in
    (first_prefix-unfinished bytes short, omega (arith, short, most))

-- a string doesn't end where none began
pub never : (p : Progress) (bytes old : List ℕ) (taken n : ℕ) (after : Progress) (new : List ℕ) → p ≡ in_prefix [] → Feeds p bytes old (Whole taken n) after new → ⊥
never p bytes old taken n after new e f =
    let g : Feeds (in_prefix []) bytes old (Whole taken n) after new = subst (λ (q : Progress). Feeds q bytes old (Whole taken n) after new) e f in
    g.0

-- a prefix ended, whatever follows it
whole : (p : Progress) (bytes old : List ℕ) (taken n : ℕ) (after : Progress) (new : List ℕ) → p ≡ in_prefix [] → Feeds p bytes old (Length taken n) after new → (taken ≤ length bytes) × ((rest : List ℕ) → first_prefix (take taken bytes ++ rest) ≡ within_limit n rest)
whole p bytes old taken n after new e f =
    let g : Feeds (in_prefix []) bytes old (Length taken n) after new = subst (λ (q : Progress). Feeds q bytes old (Length taken n) after new) e f in
    let reads : Reads [] bytes (Length taken n) after new = Feeds-reads [] bytes (in_prefix []) old (Length taken n) after new (Holds-none old) tt g in
    (g.0.within, reads.1)

limited-near : (n : ℕ) (rest : List ℕ) → n ≤ string_limit → within_limit n rest ≡ prefix_found n rest
limited-near n rest near = ap (λ (t : Bool). if t then prefix_too_long else prefix_found n rest) (le-ltb string_limit n near)

limited-far : (n : ℕ) (rest : List ℕ) → string_limit < n → within_limit n rest ≡ prefix_too_long
limited-far n rest far = ap (λ (t : Bool). if t then prefix_too_long else prefix_found n rest) (lt-ltb string_limit n far)

pub states : (p : Progress) (bytes old : List ℕ) (taken n : ℕ) (after : Progress) (new : List ℕ) → p ≡ in_prefix [] → n ≤ string_limit → Feeds p bytes old (Length taken n) after new → StatesLength bytes n taken
states p bytes old taken n after new e near f =
    let is = whole p bytes old taken n after new e f in
    record { there = is.0; limit = near; stated = λ rest. is.1 rest ∙ limited-near n rest near }

pub over : (p : Progress) (bytes old : List ℕ) (taken n : ℕ) (after : Progress) (new : List ℕ) → p ≡ in_prefix [] → string_limit < n → Feeds p bytes old (Length taken n) after new → first_prefix bytes ≡ prefix_too_long
over p bytes old taken n after new e far f =
    let is = whole p bytes old taken n after new e f in
    ap first_prefix (sym (take-append-drop taken bytes)) ∙ is.1 (drop taken bytes) ∙ limited-far n (drop taken bytes) far

first_prefix-even : (b : ℕ) (bs : List ℕ) → b % 2 ≡ 0 → first_prefix (b ∷ bs) ≡ within_limit (b / 2) bs
unfolding first_prefix
first_prefix-even b bs even = cond-true (b % 2 == 0) _ _ (eq-eqb (b % 2) 0 even)

-- a first byte that is even is the whole prefix
pub one_byte : (bytes : List ℕ) → 0 < length bytes → get_or bytes 0 0 % 2 ≡ 0 → get_or bytes 0 0 < 256 → StatesLength bytes (get_or bytes 0 0 / 2) 1
one_byte [] more even fits = absurd (omega arith)
one_byte (b ∷ bs) more even fits =
    let near : b / 2 ≤ string_limit = omega arith in
    record { there = omega arith; limit = near; stated = λ rest. first_prefix-even b rest even ∙ limited-near (b / 2) rest near }
