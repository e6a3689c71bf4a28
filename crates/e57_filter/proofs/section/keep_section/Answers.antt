use Rattle.std.proofs.Common.{◌≡◌, ◌∙◌, ◌++◌, ◌<◌, sym, ap, subst, arith, ℕ, List, length, take}
use Rattle.std.specs.List.{AllByRecursion}
use Rattle.e57_blocks.specs.Fields.{slice_at, slice_of}
use Rattle.e57_chunk_out.specs.CloudCalls.{chosen_kinds, new_cloud}
use Rattle.e57_chunk_out.specs.Standing.{Cloud}
use Rattle.e57_copy.specs.Adding.{block_kinds}
use Rattle.e57_copy.proofs.Starting.{fixed_in}
use Rattle.e57_filter.specs.Keeping.{sieve_of, IsTestOf}
use Rattle.e57_filter.specs.KeptSection.{limits_from}
use Rattle.e57_filter.specs.Selecting.{test_fields}
use Rattle.e57_filter.specs.declared.keep.Limits.{Limits}
use Rattle.e57_filter.specs.declared.select.FieldTest.{FieldTest}
use Rattle.e57_filter.proofs.Opening.{asked-below, blocks_stand, kinds_first, many_blocks, new_cloud_is, Answers, nothing_put, numbers-below, numbers-few, same_answer, slice_is, tests_of}
use Rattle.e57_filter.proofs.section.keep_section.Goals as goal

pub block_limits-requires-clause-first : goal.block_limits-requires-clause-first
block_limits-requires-clause-first g c =
    let few = numbers-few c.args.fields.now c.args.selected.now c.requires.selected in
    let most = c.requires.fields.few in
    let same = c.len.ensures ∙ sym c.deref.ensures.len ∙ ap (λ (xs : List ℕ). length xs) c.deref.ensures.value in
    omega (arith, few, most, same)

pub open-requires-clause-fixed : goal.open-requires-clause-fixed
open-requires-clause-fixed g c =
    fixed_in c.args.fields.now c.args.section.now.fields c.args.fixed c.requires.as_many c.requires.fixed

pub open-requires-clause-are_fields : goal.open-requires-clause-are_fields
open-requires-clause-are_fields g c =
    let s = c.args.selected.now in
    let asked = c.deref-4.ensures.value ∙ c.in-Ok.ensures
    ∙ ap (λ (xs : List ℕ). xs ++ test_fields c.deref-2.result.now) c.deref.ensures.value
    ∙ ap (λ (ts : List FieldTest). s.numbers.items ++ test_fields ts) c.deref-2.ensures.value in
    subst (λ (xs : List ℕ). AllByRecursion (λ (f : ℕ). f < length c.args.fields.now) xs) (sym asked) (asked-below c.args.fields.now s c.requires.selected)

pub open_chosen-requires-clause-few : goal.open_chosen-requires-clause-few
open_chosen-requires-clause-few g c =
    let few = numbers-few c.args.fields.now c.args.selected.now c.requires.selected in
    let most = c.requires.fields.few in
    let same = ap (λ (xs : List ℕ). length xs) c.deref-5.ensures.value in
    omega (arith, few, most, same)

pub open_chosen-requires-clause-there : goal.open_chosen-requires-clause-there
open_chosen-requires-clause-there g c =
    subst (λ (xs : List ℕ). AllByRecursion (λ (f : ℕ). f < length c.args.fields.now) xs) (sym c.deref-5.ensures.value) (numbers-below c.args.fields.now c.args.selected.now c.requires.selected)

pub returns-in-Err-open_chosen-clause-puts : goal.returns-in-Err-open_chosen-clause-puts
returns-in-Err-open_chosen-clause-puts g c =
    nothing_put g.T.Target.view _ _ _ _ _ (g.S.Source.view c.args.pages.now.source) c.args.out.now c.size-size.ensures.state

pub put_kept-requires-clause-stand : goal.put_kept-requires-clause-stand
put_kept-requires-clause-stand g c =
    let s = c.args.selected.now in
    let asked = c.deref-4.ensures.value ∙ c.in-Ok.ensures
    ∙ ap (λ (xs : List ℕ). xs ++ test_fields c.deref-2.result.now) c.deref.ensures.value
    ∙ ap (λ (ts : List FieldTest). s.numbers.items ++ test_fields ts) c.deref-2.ensures.value in
    blocks_stand c.args.section.now c.args.fixed c.args.fields.now s c.deref-4.result.now c.in-Ok-open.blocks asked c.requires.selected c.requires.fields.few c.in-Ok-open.ensures.of c.in-Ok-open.ensures.opens s.from (g.S.Source.view c.args.pages.now.source)

pub put_kept-requires-clause-many : goal.put_kept-requires-clause-many
put_kept-requires-clause-many g c =
    let s = c.args.selected.now in
    let asked = c.deref-4.ensures.value ∙ c.in-Ok.ensures
    ∙ ap (λ (xs : List ℕ). xs ++ test_fields c.deref-2.result.now) c.deref.ensures.value
    ∙ ap (λ (ts : List FieldTest). s.numbers.items ++ test_fields ts) c.deref-2.ensures.value in
    let kept = c.len-kept.ensures ∙ sym c.deref.ensures.len ∙ ap (λ (xs : List ℕ). length xs) c.deref.ensures.value in
    let many = many_blocks c.args.section.now c.args.fixed c.args.fields.now s c.deref-4.result.now c.in-Ok-open.blocks asked c.requires.selected c.requires.fields.few c.in-Ok-open.ensures.of c.in-Ok-open.ensures.opens in
    let some = many.0 in
    let few = many.1 in
    let have = many.2 in
    let most = many.3 in
    (omega (arith, kept, some), omega (arith, kept, few), omega (arith, kept, have), omega (arith, most))

pub put_kept-requires-clause-fresh : goal.put_kept-requires-clause-fresh
put_kept-requires-clause-fresh g c =
    let s = c.args.selected.now in
    let asked = c.deref-4.ensures.value ∙ c.in-Ok.ensures
    ∙ ap (λ (xs : List ℕ). xs ++ test_fields c.deref-2.result.now) c.deref.ensures.value
    ∙ ap (λ (ts : List FieldTest). s.numbers.items ++ test_fields ts) c.deref-2.ensures.value in
    let kept = c.len-kept.ensures ∙ sym c.deref.ensures.len ∙ ap (λ (xs : List ℕ). length xs) c.deref.ensures.value in
    subst (λ (k : ℕ). let x : Cloud = c.in-Ok-open_chosen.cloud in x ≡ new_cloud (take k (block_kinds c.in-Ok-open.blocks.blocks)) x.chunk x.at_most) (sym kept)
    (new_cloud_is c.args.section.now c.args.fixed c.args.fields.now s c.deref-4.result.now c.in-Ok-open.blocks asked c.requires.selected c.requires.fields.few c.in-Ok-open.ensures.of c.in-Ok-open.ensures.opens c.in-Ok-open_chosen.cloud 8192 s.count
    (c.in-Ok-open_chosen.ensures ∙ ap (λ (xs : List ℕ). new_cloud (chosen_kinds c.args.fields.now xs) 8192 s.count) c.deref-5.ensures.value))

pub put_kept-requires-clause-tests : goal.put_kept-requires-clause-tests
put_kept-requires-clause-tests g c =
    let s = c.args.selected.now in
    let asked = c.deref-4.ensures.value ∙ c.in-Ok.ensures
    ∙ ap (λ (xs : List ℕ). xs ++ test_fields c.deref-2.result.now) c.deref.ensures.value
    ∙ ap (λ (ts : List FieldTest). s.numbers.items ++ test_fields ts) c.deref-2.ensures.value in
    let limits = c.deref-6.ensures.value ∙ c.in-Ok-block_limits.ensures
    ∙ ap (λ (k : ℕ). limits_from k c.deref-3.result.now) (c.len.ensures ∙ sym c.deref.ensures.len ∙ ap (λ (xs : List ℕ). length xs) c.deref.ensures.value)
    ∙ ap (λ (ts : List FieldTest). limits_from (length s.numbers.items) ts) c.deref-3.ensures.value in
    subst (λ (ls : List Limits). AllByRecursion (IsTestOf (block_kinds c.in-Ok-open.blocks.blocks)) ls) (sym limits)
    (tests_of c.args.section.now c.args.fixed c.args.fields.now s c.deref-4.result.now c.in-Ok-open.blocks asked c.requires.selected c.requires.fields.few c.in-Ok-open.ensures.of c.in-Ok-open.ensures.opens)

pub returns-clause-puts : goal.returns-clause-puts
returns-clause-puts g c =
    let s = c.args.selected.now in
    let asked = c.deref-4.ensures.value ∙ c.in-Ok.ensures
    ∙ ap (λ (xs : List ℕ). xs ++ test_fields c.deref-2.result.now) c.deref.ensures.value
    ∙ ap (λ (ts : List FieldTest). s.numbers.items ++ test_fields ts) c.deref-2.ensures.value in
    let kept = c.len-kept.ensures ∙ sym c.deref.ensures.len ∙ ap (λ (xs : List ℕ). length xs) c.deref.ensures.value in
    let limits = c.deref-6.ensures.value ∙ c.in-Ok-block_limits.ensures
    ∙ ap (λ (k : ℕ). limits_from k c.deref-3.result.now) (c.len.ensures ∙ sym c.deref.ensures.len ∙ ap (λ (xs : List ℕ). length xs) c.deref.ensures.value)
    ∙ ap (λ (ts : List FieldTest). limits_from (length s.numbers.items) ts) c.deref-3.ensures.value in
    let view = g.T.Target.view in
    let old = g.S.Source.view c.args.pages.now.source in
    let new = g.S.Source.view c.put_kept.new.pages.source in
    let cloud = c.in-Ok-open_chosen.ensures in
    subst (λ (k : ℕ). Answers view (sieve_of c.args.every (limits_from (length s.numbers.items) s.tests.items)) k (slice_of c.args.section.now c.args.fixed c.args.fields.now (s.numbers.items ++ test_fields s.tests.items) s.from s.count) 8192
    (chosen_kinds c.args.fields.now s.numbers.items) old new c.args.out.now c.put_kept.result c.put_kept.new.out) kept
    (same_answer view (sieve_of c.args.every c.deref-6.result.now) (sieve_of c.args.every (limits_from (length s.numbers.items) s.tests.items)) c.len-kept.result
    (slice_at c.in-Ok-open.blocks s.from s.count) (slice_of c.args.section.now c.args.fixed c.args.fields.now (s.numbers.items ++ test_fields s.tests.items) s.from s.count)
    c.in-Ok-open_chosen.cloud.chunk 8192 (take c.len-kept.result (block_kinds c.in-Ok-open.blocks.blocks)) (chosen_kinds c.args.fields.now s.numbers.items) old new c.args.out.now c.put_kept.result c.put_kept.new.out
    (ap (λ (ls : List Limits). sieve_of c.args.every ls) limits)
    (slice_is c.args.section.now c.args.fixed c.args.fields.now s c.deref-4.result.now c.in-Ok-open.blocks asked c.requires.selected c.requires.fields.few c.in-Ok-open.ensures.of c.in-Ok-open.ensures.opens s.from s.count)
    (ap (λ (x : Cloud). x.chunk) cloud)
    (ap (λ (k : ℕ). take k (block_kinds c.in-Ok-open.blocks.blocks)) kept ∙ kinds_first c.args.section.now c.args.fixed c.args.fields.now s c.deref-4.result.now c.in-Ok-open.blocks asked c.requires.selected c.requires.fields.few c.in-Ok-open.ensures.of c.in-Ok-open.ensures.opens)
    c.put_kept.ensures.puts)
