use Rattle.std.proofs.Common.{◌≡◌, ℕ, ◌+◌, List, [], ◌++◌, length, take, drop, sym, ap, ◌∙◌, subst, arith, refl}
use Rattle.std.specs.Prelude.{MatchResult}
use Rattle.std.specs.Vec.{with_items}
use Rattle.std.proofs.lemmas.List.{append-nil, take_at}
use Rattle.std.proofs.lemmas.Result.{MatchResult-weaker}
use Rattle.e57_layout.specs.Values.{Value}
use Rattle.e57_chunk_out.specs.Texts.{strings_at, AreGathered}
use Rattle.e57_chunk_out.specs.Waiting.{IsPending, IsPushed}
use Rattle.e57_chunk_out.specs.declared.pending.Pending.{Pending}
use Rattle.e57_chunk_out.specs.declared.pending.Pending.TheVariants.{Texts}
use Rattle.e57_chunk_out.proofs.Kept.{length-strings}
use Rattle.e57_chunk_out.proofs.Pushed.{strings-items, texts-pushed}
use Rattle.e57_chunk_out.proofs.pending.push_texts.Goals as goal

pub returns-in-Texts : goal.returns-in-Texts
returns-in-Texts c =
    let held = c.in-Texts.held in
    let ends = c.in-Texts.held_ends in
    let now = c.add_texts.new.held in
    let made = c.add_texts.new.held_ends in
    let now_ends : List ℕ = take ends.len (made ++ drop (length made) ends.items) in
    let whole : now_ends ≡ made = take_at made (drop (length made) ends.items) ends.len (c.add_texts.auto.held_ends ∙ c.deref_mut.ensures.len) in
    let old : Pending = Texts held ends in
    let new : Pending = Texts now (with_items ends made) in
    let until = c.args.until in
    let given = strings_at c.args.bytes.now c.args.begin c.args.ends.now in
    let same = c.deref_mut.ensures.value in
    let before : IsPending old until = subst (λ (p : Pending). IsPending p until) c.in-Texts.is c.requires.pending in
    let count = length-strings c.args.bytes.now c.args.begin c.args.ends.now in
    let there = strings_at held.items 0 (take until ends.items) in
    let old_there = strings_at held.items 0 (take until c.deref_mut.result.now) in
    let places : length now_ends ≡ length ends.items = ap (λ (xs : List ℕ). length xs) whole ∙ c.add_texts.auto.held_ends ∙ ap (λ (xs : List ℕ). length xs) same in
    let none : until + 0 ≡ until = omega arith in
    subst (λ (p : Pending). MatchResult c.add_texts.result (λ _. IsPushed p until given new) (λ _. IsPushed p until [] new)) (sym c.in-Texts.is)
    (MatchResult-weaker c.add_texts.result c.add_texts.ensures
    (λ u gathered. texts-pushed old new held.items ends.items now.items now_ends refl refl places (λ n. refl) (λ n. refl) (λ n h. h) until given (strings-items c.args.bytes.now c.args.begin c.args.ends.now c.requires.ends)
    (omega (arith, count, c.requires.few)) before
    (subst (λ (xs : List Value). AreGathered now.items (take (until + length given) now_ends) (xs ++ given)) (ap (λ (es : List ℕ). strings_at held.items 0 (take until es)) same)
    (subst (λ k. AreGathered now.items (take (until + k) now_ends) (old_there ++ given)) (sym count)
    (subst (λ (xs : List ℕ). AreGathered now.items (take (until + length c.args.ends.now) xs) (old_there ++ given)) (sym whole) gathered))))
    (λ u gathered. texts-pushed old new held.items ends.items now.items now_ends refl refl places (λ n. refl) (λ n. refl) (λ n h. h) until [] tt
    (omega (arith, before.few)) before
    (subst (λ (xs : List Value). AreGathered now.items (take (until + 0) now_ends) xs) (sym (append-nil there))
    (subst (λ (xs : List Value). AreGathered now.items (take (until + 0) now_ends) xs) (ap (λ (es : List ℕ). strings_at held.items 0 (take until es)) same)
    (subst (λ k. AreGathered now.items (take k now_ends) old_there) (sym none)
    (subst (λ (xs : List ℕ). AreGathered now.items (take until xs) old_there) (sym whole) gathered))))))
