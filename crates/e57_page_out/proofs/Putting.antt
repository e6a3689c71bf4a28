-- Bytes are put page by page.
use Rattle.std.proofs.Common.{◌≡◌, ℕ, ◌+◌, ◌-◌, ◌*◌, ◌/◌, ◌%◌, ◌≤◌, ◌<◌, min, true, false, Bool, List, [], ◌++◌, length, take, drop, Option, Some, None, refl, sym, ap, subst, ◌∙◌, arith, inl, inr}
use Rattle.std.proofs.lemmas.Bool.{cases_lt}
use Rattle.std.specs.Prelude.{IsSomeAnd}
use Rattle.std.specs.Option.{option_map}
use Rattle.std.proofs.Math.Seq.{take-add}
use Rattle.std.proofs.lemmas.List.{append_assoc, append-nil, length-append, length-take, length-drop, take_all}
use Rattle.e57_base.proofs.CountLaws.{rose_before}
use Rattle.e57_base.specs.Target.{TargetView}
use Rattle.e57_base.specs.declared.fault.PutFault.TheVariants.{Target}
use Rattle.e57_page_out.specs.Buffer.{IsSound, IsSoundUnless, writing}
use Rattle.e57_page_out.specs.Sealed.{pages_for}
use Rattle.e57_page_out.specs.Writing.{Writing, Writes, IsBrokenOff, IsTooLarge, IsNotPut, IsBeingWritten, most_bytes}
use Rattle.e57_page_out.specs.declared.buffer.Buffer.{Buffer}
use Rattle.e57_page_out.proofs.States.{pages_so_far, unfinished_told}
use Rattle.e57_page_out.proofs.WritingLaws.{keeps_none, keeps_both}
use Rattle.e57_page_out.proofs.Steps.{by_sound}

-- the bytes that lie before page n were put
pub record HasPut {T : Type 0} (view : T → TargetView) (old : Writing T) (n : ℕ) (bytes : List ℕ) (now : Writing T) : Type 0 where
  pub writes : Writes view old (option_map (λ so_far. so_far ++ take (1020 * n - old.size) bytes) old.told_bytes) (old.size + length (take (1020 * n - old.size) bytes)) old.held now

-- page n has some of so many bytes from this place on
pub record PageOf (start n count : ℕ) : Type 0 where
  pub low : start / 1020 ≤ n
  pub high : n < pages_for (start + count)
  pub limit : start + count ≤ most_bytes

pub page_of : {T : Type 0} (view : T → TargetView) (target : T) (buffer : Buffer) (spent : Bool) (now : Writing T) (n count start last : ℕ) → writing view target buffer spent ≡ now → now.is_spent ≡ false → IsSoundUnless spent (view target) buffer → start ≡ now.size → count ≤ 280375465082880 - start → last ≡ pages_for (start + count) → buffer.number ≤ n → n < last → PageOf now.size n count
page_of view target buffer spent now n count start last is unspent sound same fits pages low high =
    by_sound view target buffer spent now
    (λ now spent. start ≡ now.size → PageOf now.size n count)
    is unspent sound
    (λ sound same.
    let short = sound.short in
    let limit = sound.limit in
    let number = pages_so_far buffer.number buffer.filled sound.short in
    let total : start + count ≡ 1020 * buffer.number + buffer.filled + count = omega arith in
    let until : last ≡ pages_for (1020 * buffer.number + buffer.filled + count) = pages ∙ ap pages_for total in
    record { low = omega arith; high = omega arith; limit = omega arith })
    same

module _ (start n count : ℕ) (page : PageOf start n count) where
  pub place_fits : 1020 * (n + 1) < 18446744073709551616
  unfolding pages_for
  place_fits =
      let high = page.high in
      let limit = page.limit in
      omega arith

  pub before_end : 1020 * n - start ≤ min (1020 * (n + 1) - start) count
  unfolding pages_for
  before_end =
      let high = page.high in
      let low = page.low in
      omega arith

  -- a part of that page fits into what is left of it
  pub part_fits : (end : ℕ) → end ≡ min (1020 * (n + 1) - start) count → (start + (1020 * n - start)) % 1020 + (end - (1020 * n - start)) ≤ 1020
  unfolding pages_for
  part_fits end is =
      let high = page.high in
      let low = page.low in
      omega arith

  pub part_below : (end : ℕ) → end ≡ min (1020 * (n + 1) - start) count → start + (1020 * n - start) + (end - (1020 * n - start)) ≤ start + count
  part_below end is =
      let before = before_end in
      omega arith

length_part : (done end : ℕ) (bytes : List ℕ) → end ≤ length bytes → length (take (end - done) (drop done bytes)) ≡ end - done
length_part done end bytes within = omega (arith, length-take (end - done) (drop done bytes), length-drop done bytes)

next_part : (done next : ℕ) (bytes : List ℕ) → done ≤ min next (length bytes) → take next bytes ≡ take done bytes ++ take (min next (length bytes) - done) (drop done bytes)
next_part done next bytes before =
    let total : min next (length bytes) ≡ done + (min next (length bytes) - done) = omega arith in
    let whole : take next bytes ≡ take (min next (length bytes)) bytes = first next bytes in
    whole ∙ ap (λ k. take k bytes) total ∙ take-add done (min next (length bytes) - done) bytes
  where
    first : (next : ℕ) (bytes : List ℕ) → take next bytes ≡ take (min next (length bytes)) bytes
    first next bytes =
        elim (cases_lt next (length bytes)) [
          | inl h ↦ let e : min next (length bytes) ≡ next = omega arith in ap (λ k. take k bytes) (sym e)
          | inr h ↦ let e : min next (length bytes) ≡ length bytes = omega arith in take_all next bytes h ∙ sym (take_all (length bytes) bytes (omega arith)) ∙ ap (λ k. take k bytes) (sym e)
        ]

appended_twice : (a b : List ℕ) (told : Option (List ℕ)) → option_map (λ so_far. so_far ++ b) (option_map (λ so_far. so_far ++ a) told) ≡ option_map (λ so_far. so_far ++ (a ++ b)) told
appended_twice a b None = refl
appended_twice a b (Some bytes) = ap Some (append_assoc bytes a b)

appended_none : (told : Option (List ℕ)) → told ≡ option_map (λ so_far. so_far ++ []) told
appended_none None = refl
appended_none (Some bytes) = ap Some (sym (append-nil bytes))

-- nothing was put so far
pub put_none : {T : Type 0} (view : T → TargetView) (old : Writing T) (n : ℕ) (bytes : List ℕ) → IsBeingWritten view old → 1020 * n ≤ old.size → HasPut view old n bytes old
put_none view old n bytes state low =
    let none : 1020 * n - old.size ≡ 0 = omega arith in
    record {
      writes = rw none (record {
        bytes = appended_none old.told_bytes;
        size = omega arith;
        held = refl;
        state = state;
        target = keeps_none (view old.target);
      });
    }

module _ {T : Type 0} (view : T → TargetView) (old mid : Writing T) (n end : ℕ) (bytes : List ℕ) (page : PageOf old.size n (length bytes)) (put : HasPut view old n bytes mid) (is : end ≡ min (1020 * (n + 1) - old.size) (length bytes)) where
  abbrev done : ℕ
  done = 1020 * n - old.size

  abbrev part : List ℕ
  part = take (end - done) (drop done bytes)

  before_this : done ≤ end
  before_this = let e = before_end old.size n (length bytes) page in omega arith

  size_mid : mid.size ≡ old.size + done
  size_mid = let before = before_this in put.writes.size ∙ omega (arith, length-take done bytes)

  size_part : length part ≡ end - done
  size_part = length_part done end bytes (omega arith)

  pub fits_page : mid.size % 1020 + length part ≤ 1020
  fits_page = let size = size_mid in let count = size_part in rw (size, count) (part_fits old.size n (length bytes) page end is)

  pub within_limit : mid.size + length part ≤ most_bytes
  within_limit = let size = size_mid in let count = size_part in let below = part_below old.size n (length bytes) page end is in let limit = page.limit in omega arith

  pub put_next : (new : Writing T) → Writes view mid (option_map (λ so_far. so_far ++ part) mid.told_bytes) (mid.size + length part) mid.held new → HasPut view old (n + 1) bytes new
  put_next new next =
      let all : take (1020 * (n + 1) - old.size) bytes ≡ take done bytes ++ part =
      next_part done (1020 * (n + 1) - old.size) bytes (before_end old.size n (length bytes) page)
      ∙ ap (λ k. take done bytes ++ take (k - done) (drop done bytes)) (sym is) in
      record {
        writes = record {
          bytes = next.bytes
              ∙ ap (option_map (λ so_far. so_far ++ part)) put.writes.bytes
              ∙ appended_twice (take done bytes) part old.told_bytes
              ∙ ap (λ (xs : List ℕ). option_map (λ so_far. so_far ++ xs) old.told_bytes) (sym all);
          size = let count = ap length all in let size = next.size in let before = put.writes.size in omega (arith, length-append (take done bytes) part);
          held = next.held ∙ put.writes.held;
          state = next.state;
          target = keeps_both (view old.target) (view mid.target) (view new.target) put.writes.target next.target;
        };
      }

  pub put_lost : (new : Writing T) → IsBrokenOff view mid ((mid.size + length part) / 1020) new → IsNotPut view old (length bytes) Target new
  put_lost new broken =
      let size = size_mid in
      let count = size_part in
      let below = part_below old.size n (length bytes) page end is in (
        page.limit,
        record {
          spent = broken.spent;
          pages = pages_between (view new.target).pages (old.size / 1020) (mid.size / 1020) ((mid.size + length part) / 1020) ((old.size + length bytes) / 1020) (omega arith) (omega arith) broken.pages;
          unended = broken.unended;
          unfinished = broken.unfinished;
          target = keeps_both (view old.target) (view mid.target) (view new.target) put.writes.target broken.target;
          cause = rose_before (view old.target).faults (view mid.target).faults (view new.target).faults put.writes.target.faults broken.cause;
        },
      )
    where
      pages_between : (pages : Option ℕ) (low low' high high' : ℕ) → low ≤ low' → high ≤ high' → IsSomeAnd pages (λ k. (low' ≤ k) × (k < high)) → IsSomeAnd pages (λ k. (low ≤ k) × (k < high'))
      pages_between None low low' high high' a b ok = ok
      pages_between (Some k) low low' high high' a b ok = let from = ok.0 in let below = ok.1 in (omega arith, omega arith)

-- all bytes were put
pub put_all : {T : Type 0} (view : T → TargetView) (old now : Writing T) (n : ℕ) (bytes : List ℕ) → HasPut view old n bytes now → pages_for (old.size + length bytes) ≤ n → Writes view old (option_map (λ so_far. so_far ++ bytes) old.told_bytes) (old.size + length bytes) old.held now
unfolding pages_for
put_all view old now n bytes put past =
    let all : take (1020 * n - old.size) bytes ≡ bytes = take_all (1020 * n - old.size) bytes (omega arith) in
    subst (λ (xs : List ℕ). Writes view old (option_map (λ so_far. so_far ++ xs) old.told_bytes) (old.size + length xs) old.held now) all put.writes

-- the bytes would pass the last page
pub too_large : {T : Type 0} (view : T → TargetView) (target : T) (buffer : Buffer) (count start : ℕ) → IsSound (view target) buffer → start ≡ 1020 * buffer.number + buffer.filled → 280375465082880 - start < count → IsTooLarge view (writing view target buffer false) count (writing view target buffer true)
too_large view target buffer count start sound same past =
    let limit = sound.limit in
    record {
      past = omega arith;
      spent = refl;
      target = refl;
      unended = sound.unended;
      unfinished = unfinished_told buffer.number (view target).held sound.file;
    }
