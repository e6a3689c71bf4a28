use Rattle.std.proofs.Common.{map, ◌+◌, ◌≡◌, ℕ, List, ◌++◌, length, take, drop, sym, ap, ◌∙◌, subst, refl}
use Rattle.std.proofs.lemmas.List.{take_at}
use Rattle.std.specs.Vec.{with_items}
use Rattle.e57_layout.specs.Values.{word}
use Rattle.e57_chunk_out.specs.Waiting.{IsPending, IsPushed}
use Rattle.e57_chunk_out.specs.declared.pending.Pending.{Pending}
use Rattle.e57_chunk_out.specs.declared.pending.Pending.TheVariants.{Bits32}
use Rattle.e57_chunk_out.proofs.Pushed.{words-items, numbers-pushed}
use Rattle.e57_chunk_out.proofs.pending.push_words.Goals as goal

pub returns-in-Bits32 : goal.returns-in-Bits32
returns-in-Bits32 c =
    let items = c.in-Bits32.items in
    let made = c.place.new.items in
    let now : List ℕ = take items.len (made ++ drop (length made) items.items) in
    let whole_now : now ≡ made = take_at made (drop (length made) items.items) items.len (c.place.auto.items ∙ c.deref_mut.ensures.len) in
    let places : length now ≡ length items.items = ap (λ (xs : List ℕ). length xs) whole_now ∙ c.place.auto.items ∙ ap (λ (xs : List ℕ). length xs) c.deref_mut.ensures.value in
    subst (λ (p : Pending). IsPushed p c.args.until (map word c.args.values.now) (Bits32 (with_items items made))) (sym c.in-Bits32.is)
    (numbers-pushed word (Bits32 items) (Bits32 (with_items items made)) items.items now refl places (λ n. refl) (λ n. refl) (λ n. tt) c.args.until c.args.values.now
    (words-items 32 c.args.values.now (λ k. (c.type_inv.values k).fits)) c.requires.few (subst (λ (p : Pending). IsPending p c.args.until) c.in-Bits32.is c.requires.pending)
    (ap (take (c.args.until + length c.args.values.now)) whole_now ∙ c.place.ensures ∙ ap (λ (xs : List ℕ). take c.args.until xs ++ c.args.values.now) c.deref_mut.ensures.value))
