use Rattle.std.proofs.Common.{◌≡◌, ℕ, ℤ, ◌-◌, List, ◌++◌, length, take, drop, sym, ap, ◌∙◌, subst, refl}
use Rattle.std.proofs.lemmas.List.{take_at}
use Rattle.std.specs.Vec.{with_items}
use Rattle.e57_layout.specs.Values.{word, whole}
use Rattle.e57_chunk_out.specs.Waiting.{IsPending, IsLetGo}
use Rattle.e57_chunk_out.specs.declared.pending.Pending.{Pending}
use Rattle.e57_chunk_out.specs.declared.pending.Pending.TheVariants.{Ints, Bits32, Bits64}
use Rattle.e57_chunk_out.proofs.Pushed.{numbers-let_go}
use Rattle.e57_chunk_out.proofs.pending.drop_front.Goals as goal

pub returns-in-Ints : goal.returns-in-Ints
returns-in-Ints c =
    let items = c.in-Ints.items in
    let made = c.let_go.new.items in
    let now : List ℤ = take items.len (made ++ drop (length made) items.items) in
    let same = c.deref_mut.ensures.value in
    let whole_now : now ≡ made = take_at made (drop (length made) items.items) items.len (c.let_go.auto.items ∙ c.deref_mut.ensures.len) in
    let places : length now ≡ length items.items = ap (λ (xs : List ℤ). length xs) whole_now ∙ c.let_go.auto.items ∙ ap (λ (xs : List ℤ). length xs) same in
    let before : IsPending (Ints c.in-Ints.min c.in-Ints.max c.in-Ints.width items) c.args.until = subst (λ (p : Pending). IsPending p c.args.until) c.in-Ints.is c.requires.pending in
    subst (λ (p : Pending). IsLetGo p c.args.n c.args.until (Ints c.in-Ints.min c.in-Ints.max c.in-Ints.width (with_items items made))) (sym c.in-Ints.is)
    (numbers-let_go whole (Ints c.in-Ints.min c.in-Ints.max c.in-Ints.width items) (Ints c.in-Ints.min c.in-Ints.max c.in-Ints.width (with_items items made)) items.items now refl places (λ n. refl) (λ n. refl) (λ n. before.order) c.args.n c.args.until before
    (ap (take (c.args.until - c.args.n)) whole_now ∙ c.let_go.ensures ∙ ap (λ (xs : List ℤ). drop c.args.n (take c.args.until xs)) same))

pub returns-in-Bits32 : goal.returns-in-Bits32
returns-in-Bits32 c =
    let items = c.in-Bits32.items in
    let made = c.let_go-in-Bits32.new.items in
    let now : List ℕ = take items.len (made ++ drop (length made) items.items) in
    let same = c.deref_mut-in-Bits32.ensures.value in
    let whole_now : now ≡ made = take_at made (drop (length made) items.items) items.len (c.let_go-in-Bits32.auto.items ∙ c.deref_mut-in-Bits32.ensures.len) in
    let places : length now ≡ length items.items = ap (λ (xs : List ℕ). length xs) whole_now ∙ c.let_go-in-Bits32.auto.items ∙ ap (λ (xs : List ℕ). length xs) same in
    let before : IsPending (Bits32 items) c.args.until = subst (λ (p : Pending). IsPending p c.args.until) c.in-Bits32.is c.requires.pending in
    subst (λ (p : Pending). IsLetGo p c.args.n c.args.until (Bits32 (with_items items made))) (sym c.in-Bits32.is)
    (numbers-let_go word (Bits32 items) (Bits32 (with_items items made)) items.items now refl places (λ n. refl) (λ n. refl) (λ n. tt) c.args.n c.args.until before
    (ap (take (c.args.until - c.args.n)) whole_now ∙ c.let_go-in-Bits32.ensures ∙ ap (λ (xs : List ℕ). drop c.args.n (take c.args.until xs)) same))

pub returns-in-Bits64 : goal.returns-in-Bits64
returns-in-Bits64 c =
    let items = c.in-Bits64.items in
    let made = c.let_go-in-Bits64.new.items in
    let now : List ℕ = take items.len (made ++ drop (length made) items.items) in
    let same = c.deref_mut-in-Bits64.ensures.value in
    let whole_now : now ≡ made = take_at made (drop (length made) items.items) items.len (c.let_go-in-Bits64.auto.items ∙ c.deref_mut-in-Bits64.ensures.len) in
    let places : length now ≡ length items.items = ap (λ (xs : List ℕ). length xs) whole_now ∙ c.let_go-in-Bits64.auto.items ∙ ap (λ (xs : List ℕ). length xs) same in
    let before : IsPending (Bits64 items) c.args.until = subst (λ (p : Pending). IsPending p c.args.until) c.in-Bits64.is c.requires.pending in
    subst (λ (p : Pending). IsLetGo p c.args.n c.args.until (Bits64 (with_items items made))) (sym c.in-Bits64.is)
    (numbers-let_go word (Bits64 items) (Bits64 (with_items items made)) items.items now refl places (λ n. refl) (λ n. refl) (λ n. tt) c.args.n c.args.until before
    (ap (take (c.args.until - c.args.n)) whole_now ∙ c.let_go-in-Bits64.ensures ∙ ap (λ (xs : List ℕ). drop c.args.n (take c.args.until xs)) same))
