use Rattle.std.proofs.Common.{ℤ, w64, to_z, of_z, sym, subst, arith, rules}
use Rattle.std.proofs.lemmas.Int.{to_z-of_z}
use Rattle.e57_layout.proofs.Laws.Items.{IsKind-fits}
use Rattle.e57_chunk_out.specs.Waiting.{IsPending}
use Rattle.e57_chunk_out.specs.declared.pending.Pending.TheVariants.{Ints}
use Rattle.e57_chunk_out.proofs.pending.new_ints.Goals as goal

pub returns-clause-is : goal.returns-clause-is
returns-clause-is c =
    subst (λ (a : ℤ). IsPending (Ints a (to_z w64 (of_z w64 c.args.max)) c.args.width c.in_ok-items.items) 0) (sym (to_z-of_z w64 c.args.min c.ranges.min))
    (subst (λ (b : ℤ). IsPending (Ints c.args.min b c.args.width c.in_ok-items.items) 0) (sym (to_z-of_z w64 c.args.max c.ranges.max))
    (record {
      places = search rules;
      few = omega arith;
      kind = IsKind-fits c.args.min c.args.max c.ranges.min c.ranges.max c.requires.order;
      items = tt;
      order = (c.requires.fits, c.ranges.min);
    }))
