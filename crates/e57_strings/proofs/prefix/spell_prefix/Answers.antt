use Rattle.std.proofs.Common.{◌≡◌, ◌≤◌, ◌<◌, ℕ, ◌+◌, ◌*◌, ◌/◌, ◌%◌, List, [], ◌∷◌, ◌++◌, take, set, length, refl, sym, ap, ◌∙◌, arith, w64}
use Rattle.std.specs.Int.{to_le_bytes}
use Rattle.std.proofs.Math.Nat.{mod-eq_of_lt}
use Rattle.std.proofs.lemmas.List.{take_more_set, take_all}
use Rattle.e57_layout.specs.Bytes.{low_bytes}
use Rattle.e57_layout.specs.Strings.{string_prefix, string_limit, first_prefix, prefix_found}
use Rattle.e57_layout.proofs.Laws.Items.{first_prefix-written}
use Rattle.e57_layout.proofs.Laws.Numbers.{low_bytes-suc, low_bytes-zero, little-low_bytes, length-low_bytes}
use Rattle.e57_strings.proofs.Prefixes.{le-true, le-false}
use Rattle.e57_strings.proofs.prefix.spell_prefix.Goals as goal

short : (out : List ℕ) (n : ℕ) → length out ≡ 8 → n ≤ 127 → take 1 (set out 0 (2 * n)) ≡ string_prefix n
unfolding string_prefix
short out n long h =
    take_more_set out 0 (2 * n) (omega arith)
    ∙ ap (λ x. x ∷ []) (sym (mod-eq_of_lt (omega arith)))
    ∙ sym (low_bytes-suc 0 (2 * n) ∙ ap (λ xs. 2 * n % 256 ∷ xs) (low_bytes-zero (2 * n / 256)))
    ∙ rw (le-true n 127 h) refl

long : (bytes : List ℕ) (n : ℕ) → bytes ≡ to_le_bytes w64 (2 * n + 1) → 127 < n → take 8 bytes ≡ string_prefix n
unfolding string_prefix
long bytes n e h =
    let spelled : bytes ≡ low_bytes 8 (2 * n + 1) = e ∙ little-low_bytes 8 (2 * n + 1) in
    take_all 8 bytes (omega (arith, ap length spelled, length-low_bytes 8 (2 * n + 1)))
    ∙ spelled
    ∙ rw (le-false n 127 h) refl

read_back : (xs : List ℕ) (n : ℕ) → xs ≡ string_prefix n → n ≤ string_limit → (rest : List ℕ) → first_prefix (xs ++ rest) ≡ prefix_found n rest
read_back xs n e h rest = ap (λ ys. first_prefix (ys ++ rest)) e ∙ first_prefix-written n rest h

pub returns-then-len-le-ONE_BYTE-clause-spelled : goal.returns-then-len-le-ONE_BYTE-clause-spelled
returns-then-len-le-ONE_BYTE-clause-spelled c = short c.args.out.now c.args.len c.told-out c.if-len-le-ONE_BYTE.true

pub returns-then-len-le-ONE_BYTE-clause-read_back : goal.returns-then-len-le-ONE_BYTE-clause-read_back
returns-then-len-le-ONE_BYTE-clause-read_back c = read_back _ c.args.len (short c.args.out.now c.args.len c.told-out c.if-len-le-ONE_BYTE.true) c.requires

pub returns-clause-spelled : goal.returns-clause-spelled
returns-clause-spelled c = long c.to_le_bytes.result c.args.len c.to_le_bytes.ensures c.if-len-le-ONE_BYTE.false

pub returns-clause-read_back : goal.returns-clause-read_back
returns-clause-read_back c = read_back _ c.args.len (long c.to_le_bytes.result c.args.len c.to_le_bytes.ensures c.if-len-le-ONE_BYTE.false) c.requires
