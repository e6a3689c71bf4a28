use Rattle.std.proofs.Common.{◌≡◌, ℕ, ◌+◌, ◌-◌, ◌++◌, List, length, take, drop, subst, sym, ap, ◌∙◌, arith}
use Rattle.std.specs.List.{AllByRecursion}
use Rattle.std.proofs.lemmas.List.{take_at, length-take-le, length-drop}
use Rattle.std.proofs.lemmas.Slice.{take-put_mid}
use borrow.Rule.Slice.PartMut.{put_mid}
use Rattle.e57_chunk_out.specs.Texts.{strings_at, AreGathered, IsMovable, moved_ends}
use Rattle.e57_chunk_out.proofs.Behind.{last_of, last_of-take, last-within, ends-last, ends-movable, are-added, are-kept, take-front, take-behind, put-grown}
use Rattle.e57_chunk_out.proofs.gathered.add_texts.Goals as goal

pub piece-texts-requires : goal.piece-texts-requires
piece-texts-requires c =
    let within = last-within (length c.args.bytes.now) c.args.begin c.args.ends.now c.requires.ends in
    (omega (arith, within.0, c.last_end.ensures), omega (arith, within.1, c.last_end.ensures))

pub overflow_add-used : goal.overflow_add-used
overflow_add-used c =
    let within = last-within (length c.args.bytes.now) c.args.begin c.args.ends.now c.requires.ends in
    let here = last_of-take c.args.until c.args.held_ends.now (omega (arith, c.requires.room)) in
    let inside = last-within (length c.args.held.now.items) 0 (take c.args.until c.args.held_ends.now) c.requires.held in
    let size : length c.piece-texts.result.now ≡ c.last_end.result - c.args.begin =
    ap (λ (xs : List ℕ). length xs) c.piece-texts.ensures ∙ length-take-le (c.last_end.result - c.args.begin) (drop c.args.begin c.args.bytes.now) (omega (arith, length-drop c.args.begin c.args.bytes.now, c.last_end.ensures, within.1)) in
    record { fits = omega (arith, size, within.0, within.1, c.last_end.ensures, inside.1, here, c.begin_of-used.ensures, c.args.held.now.small, c.args.held.now.ok, c.well_formed) }

pub returns-in_default : goal.returns-in_default
returns-in_default c = are-kept c.args.held.now.items c.grow.new.run.items (take c.args.until c.args.held_ends.now) c.requires.held c.grow.ensures.kept

pub move_ends-requires : goal.move_ends-requires
move_ends-requires c =
    let within = last-within (length c.args.bytes.now) c.args.begin c.args.ends.now c.requires.ends in
    let long : length (take c.args.until c.args.held_ends.now) ≡ c.args.until = length-take-le c.args.until c.args.held_ends.now (omega (arith, c.requires.room)) in
    let size : length c.piece-texts.result.now ≡ c.last_end.result - c.args.begin =
    ap (λ (xs : List ℕ). length xs) c.piece-texts.ensures ∙ length-take-le (c.last_end.result - c.args.begin) (drop c.args.begin c.args.bytes.now) (omega (arith, length-drop c.args.begin c.args.bytes.now, c.last_end.ensures, within.1)) in
    let count : length c.args.ends.now ≡ c.args.until + length c.args.ends.now - c.args.until = omega arith in
    let these : take (c.args.until + length c.args.ends.now - c.args.until) (drop c.args.until c.place.new.items) ≡ c.args.ends.now =
    ap (λ k. take k (drop c.args.until c.place.new.items)) (sym count) ∙ take-behind c.args.until (length c.args.ends.now) (take c.args.until c.args.held_ends.now) c.args.ends.now c.place.new.items long c.place.ensures in
    subst (λ (xs : List ℕ). AllByRecursion (IsMovable c.args.begin c.begin_of-used.result) xs) (sym these)
    (ends-movable (last_of c.args.begin c.args.ends.now) c.args.begin c.begin_of-used.result c.args.begin c.args.ends.now (omega arith)
    (omega (arith, size, c.last_end.ensures, c.put.ensures.end, c.put.auto.out, c.deref_mut.type_inv, c.deref_mut.ensures.value, c.in-Ok.ensures.room))
    (ends-last (length c.args.bytes.now) c.args.begin c.args.ends.now c.requires.ends))

pub returns : goal.returns
returns c =
    let within = last-within (length c.args.bytes.now) c.args.begin c.args.ends.now c.requires.ends in
    let here = last_of-take c.args.until c.args.held_ends.now (omega (arith, c.requires.room)) in
    let inside = last-within (length c.args.held.now.items) 0 (take c.args.until c.args.held_ends.now) c.requires.held in
    let long : length (take c.args.until c.args.held_ends.now) ≡ c.args.until = length-take-le c.args.until c.args.held_ends.now (omega (arith, c.requires.room)) in
    let size : length c.piece-texts.result.now ≡ c.last_end.result - c.args.begin =
    ap (λ (xs : List ℕ). length xs) c.piece-texts.ensures ∙ length-take-le (c.last_end.result - c.args.begin) (drop c.args.begin c.args.bytes.now) (omega (arith, length-drop c.args.begin c.args.bytes.now, c.last_end.ensures, within.1)) in
    let count : length c.args.ends.now ≡ c.args.until + length c.args.ends.now - c.args.until = omega arith in
    let these : take (c.args.until + length c.args.ends.now - c.args.until) (drop c.args.until c.place.new.items) ≡ c.args.ends.now =
    ap (λ k. take k (drop c.args.until c.place.new.items)) (sym count) ∙ take-behind c.args.until (length c.args.ends.now) (take c.args.until c.args.held_ends.now) c.args.ends.now c.place.new.items long c.place.ensures in
    let used : c.begin_of-used.result ≡ last_of 0 (take c.args.until c.args.held_ends.now) = c.begin_of-used.ensures ∙ sym here in
    let end : c.put.result ≡ c.begin_of-used.result + (c.last_end.result - c.args.begin) = omega (arith, c.put.ensures.end, size) in
    let moved : c.move_ends.new.ends ≡ moved_ends c.args.begin c.begin_of-used.result c.args.ends.now = c.move_ends.ensures ∙ ap (moved_ends c.args.begin c.begin_of-used.result) these in
    let many : length c.move_ends.new.ends ≡ length c.args.ends.now = c.move_ends.auto.ends ∙ ap (λ (xs : List ℕ). length xs) these in
    let written : take c.put.result c.put.new.out ≡ take c.begin_of-used.result c.args.held.now.items ++ c.piece-texts.result.now =
    put-grown c.args.held.now.items c.grow.new.run.items c.put.new.out c.piece-texts.result.now c.begin_of-used.result c.put.result (omega (arith, used, inside.1)) c.in-Ok.ensures.kept
    (c.put.ensures.bytes ∙ ap (λ (xs : List ℕ). take c.begin_of-used.result xs ++ c.piece-texts.result.now) c.deref_mut.ensures.value) in
    subst (λ (xs : List ℕ). AreGathered xs (take (c.args.until + length c.args.ends.now) (put_mid c.args.until (c.args.until + length c.args.ends.now - c.args.until) c.place.new.items c.move_ends.new.ends)) (strings_at c.args.held.now.items 0 (take c.args.until c.args.held_ends.now) ++ strings_at c.args.bytes.now c.args.begin c.args.ends.now))
    (sym (take_at c.put.new.out (drop (length c.put.new.out) c.grow.new.run.items) c.grow.new.run.len (c.put.auto.out ∙ c.deref_mut.ensures.len)))
    (are-added c.args.held.now.items c.args.bytes.now c.put.new.out (take c.args.until c.args.held_ends.now) c.args.ends.now
    (take (c.args.until + length c.args.ends.now) (put_mid c.args.until (c.args.until + length c.args.ends.now - c.args.until) c.place.new.items c.move_ends.new.ends)) c.args.begin c.begin_of-used.result (c.last_end.result - c.args.begin)
    c.requires.held c.requires.ends used (ap (λ k. k - c.args.begin) c.last_end.ensures)
    (ap (λ k. take k c.put.new.out) (sym end) ∙ written ∙ ap (λ (xs : List ℕ). take c.begin_of-used.result c.args.held.now.items ++ xs) c.piece-texts.ensures)
    (omega (arith, end, c.put.auto.out, c.in-Ok.ensures.room, c.deref_mut.ensures.value, size, ap (λ (xs : List ℕ). length xs) c.deref_mut.ensures.value))
    (take-put_mid c.args.until (c.args.until + length c.args.ends.now - c.args.until) c.place.new.items c.move_ends.new.ends (c.args.until + length c.args.ends.now) (omega (arith, many)) (omega (arith, c.place.auto.items, c.requires.room))
    ∙ ap (λ (xs : List ℕ). xs ++ c.move_ends.new.ends) (take-front c.args.until (length c.args.ends.now) (take c.args.until c.args.held_ends.now) c.args.ends.now c.place.new.items long c.place.ensures)
    ∙ ap (λ (xs : List ℕ). take c.args.until c.args.held_ends.now ++ xs) moved))
