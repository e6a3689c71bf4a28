use Rattle.std.proofs.Common.{◌≡◌, ◌%◌, ◌∙◌, ℕ, List}
use Rattle.std.specs.Prelude.{◌==◌, ◌&&◌, ◌||◌}
use Rattle.std.proofs.lemmas.Bool.{eq-eqb, ne_eqb}
use Rattle.e57_bits.specs.Bits.{number}
use Rattle.e57_layout.specs.Packets.{sort_at}
use Rattle.e57_layout.specs.declared.packet.Entry.{Entry}
use Rattle.e57_cloud.specs.Index.{is_target as the_is_target}
use Rattle.e57_index.proofs.Targets.{target_is}
use Rattle.e57_index.proofs.target.is_target.Goals as goal

four : (a b : List ℕ) (e : Entry) (sort flags : ℕ) → a ≡ b → sort ≡ number a 0 8 → flags ≡ number a 8 8 → (sort == 1 && (flags % 2 == 1 || e.first == 0)) ≡ the_is_target b e 0
unfolding sort_at
four a b e sort flags same first next = rw (first, next, same) (target_is b 0 e)

pub returns-then-flags-eq1 : goal.returns-then-flags-eq1
returns-then-flags-eq1 c =
    let sort = eq-eqb c.u8_at-sort.result 1 c.if-sort-eq-DATA_PACKET.true in
    let flag = eq-eqb (c.u8_at-flags.result % 2) 1 c.if-flags-eq1.true in
    let test = four c.as_slice-bytes.result.now c.args.bytes.now c.args.entry.now c.u8_at-sort.result c.u8_at-flags.result c.as_slice-bytes.ensures c.u8_at-sort.ensures c.u8_at-flags.ensures in
    flag ∙ (rw (sort, flag) at test)

pub returns-else-flags-eq1 : goal.returns-else-flags-eq1
returns-else-flags-eq1 c =
    let sort = eq-eqb c.u8_at-sort.result 1 c.if-sort-eq-DATA_PACKET.true in
    let flag = ne_eqb (c.u8_at-flags.result % 2) 1 c.if-flags-eq1.false in
    let test = four c.as_slice-bytes.result.now c.args.bytes.now c.args.entry.now c.u8_at-sort.result c.u8_at-flags.result c.as_slice-bytes.ensures c.u8_at-sort.ensures c.u8_at-flags.ensures in
    rw (sort, flag) at test
