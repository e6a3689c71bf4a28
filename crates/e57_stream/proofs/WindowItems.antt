-- The items that a window has.
use Rattle.std.proofs.Common.{◌≡◌, ℕ, ◌+◌, ◌-◌, ◌*◌, ◌/◌, ◌%◌, ◌<◌, ◌≤◌, List, ◌++◌, length, drop, refl, sym, subst, ap, ◌∙◌, arith, length-append}
use Rattle.std.specs.Prelude.{min}
use Rattle.std.proofs.Math.Nat.{le_refl}
use Rattle.std.proofs.lemmas.Nat.{mul-le}
use Rattle.std.proofs.lemmas.List.{drop_at, length-drop}
use Rattle.e57_bits.specs.Bits.{number}
use Rattle.e57_bits.proofs.BitLaws.{number-drop}
use Rattle.e57_stream.specs.declared.chunk.Chunk.{Chunk}
use Rattle.e57_stream.specs.Standing.{items_held, moved_on, let_gone}

-- ---- bits

-- the number of an item behind a front is that of the window
pub number_behind : (front window : List ℕ) (w bit k j : ℕ) → 8 * length front + bit ≡ w * k → number (front ++ window) (w * (k + j)) w ≡ number (drop (bit / 8) window) (bit % 8 + j * w) w
number_behind front window w bit k j begins =
    let parts : w * (k + j) ≡ w * k + j * w = grind arith in
    let place : w * (k + j) ≡ 8 * length front + (bit + j * w) = omega (arith, parts, begins) in
    let inner : bit + j * w ≡ 8 * (bit / 8) + (bit % 8 + j * w) = omega arith in
    ap (λ (t : ℕ). number (front ++ window) t w) place
    ∙ sym (number-drop (front ++ window) (length front) (bit + j * w) w)
    ∙ ap (λ (xs : List ℕ). number xs (bit + j * w) w) (drop_at front window (length front) refl)
    ∙ ap (λ (t : ℕ). number window t w) inner
    ∙ sym (number-drop window (bit / 8) (bit % 8 + j * w) w)

-- so many whole items are no more than there are bits
held_bits : (w bits j : ℕ) → 0 < w → j < bits / w → w * j + w ≤ bits
held_bits w bits j some below =
    let most : w * (j + 1) ≤ w * (bits / w) = mul-le w (j + 1) w (bits / w) (le_refl w) (omega (arith, below)) in
    let part : w * (bits / w) ≤ bits = omega arith in
    let next : w * (j + 1) ≡ w * j + w = grind arith in
    omega (arith, most, part, next)

-- the bits of the item are there
pub bits_behind : (front window : List ℕ) (w bit k j : ℕ) → 0 < w → 8 * length front + bit ≡ w * k → j < (8 * length window - bit) / w → w * (k + j) + w ≤ 8 * length (front ++ window)
bits_behind front window w bit k j some begins below =
    let held = held_bits w (8 * length window - bit) j some below in
    let parts : w * (k + j) ≡ w * k + w * j = grind arith in
    rw length-append (omega (arith, held, parts, begins, some))

-- a window that has no whole item
none_held : (w size bit : ℕ) → 0 < w → (8 * size - bit) / w ≡ 0 → 8 * size < bit + w
none_held w size bit some none =
    let zero : w * ((8 * size - bit) / w) ≡ w * 0 = ap (λ (q : ℕ). w * q) none in
    let rest : (8 * size - bit) % w < w = omega arith in
    let all : w * ((8 * size - bit) / w) + (8 * size - bit) % w ≡ 8 * size - bit = omega arith in
    omega (arith, zero, rest, all)

-- ---- no item in the window

with_place : Chunk → ℕ → ℕ → Chunk
with_place chunk at bit = record chunk { at = at; bit = bit }

pub moved_none : (w : ℕ) (chunk : Chunk) → moved_on w 0 chunk ≡ chunk
unfolding moved_on with_place
moved_none w chunk =
    let e : chunk.at + 0 ≡ chunk.at = omega arith in
    let f : chunk.bit + w * 0 ≡ chunk.bit = omega arith in
    ap (λ (a : ℕ). with_place chunk a (chunk.bit + w * 0)) e ∙ ap (λ (t : ℕ). with_place chunk chunk.at t) f

pub moved_at : (w n : ℕ) (before after : Chunk) → after ≡ moved_on w n before → after.at ≡ before.at + n
unfolding moved_on
moved_at w n before after is = ap (λ (c : Chunk). c.at) is

-- What is known where no item of w bits was read into one or more places: the next one isn't whole in the window, and at
-- most 16 bytes are left once whole bytes are let go.
pub record HasNone (w : ℕ) (before after : Chunk) : Type 0 where
  pub same : after ≡ before
  pub lacks : 8 * length before.window < before.bit + w
  pub left : length (let_gone after).window ≤ 16

left_over : (w : ℕ) (chunk : Chunk) → w ≤ 64 → 8 * length chunk.window < chunk.bit + w → length (let_gone chunk).window ≤ 16
unfolding let_gone
left_over w chunk few lacks = rw length-drop (omega (arith, few, lacks))

pub none_taken : (w places n : ℕ) (before after : Chunk) → 0 < w → w ≤ 64 → 0 < places → n ≤ 0 → n ≡ min places (items_held w before) → after ≡ moved_on w n before → HasNone w before after
none_taken w places n before after wide narrow some zero count moved =
    let is_zero : n ≡ 0 = omega (arith, zero) in
    let same : after ≡ before = moved ∙ ap (λ (k : ℕ). moved_on w k before) is_zero ∙ moved_none w before in
    let none : (8 * length before.window - before.bit) / w ≡ 0 = omega (arith, count, some, is_zero) in
    let lacks = none_held w (length before.window) before.bit wide none in
    record {
      same = same;
      lacks = lacks;
      left = subst (λ (chunk : Chunk). length (let_gone chunk).window ≤ 16) (sym same) (left_over w before narrow lacks);
    }
