-- A file that is begun, and then written to its end, or not.
use Rattle.std.specs.Prelude.{MatchOption, MatchResult, Result, Ok, Err}
use Rattle.std.proofs.Common.{◌≡◌, ◌⊎◌, inl, inr, ℕ, List, replicate, Option, Some, None, refl, sym, ap, subst, ◌∙◌, arith}
use Rattle.std.specs.Option.{option_map}
use Rattle.e57_base.proofs.CountLaws.{rose_before}
use Rattle.e57_base.specs.Target.{TargetView}
use Rattle.e57_base.specs.declared.fault.RunFault.{RunFault}
use Rattle.e57_base.specs.declared.fault.RunFault.TheVariants.{Refused, Source, Out, Memory, Ask}
use Rattle.e57_page_out.specs.Sequences.{Leaves}
use Rattle.e57_page_out.specs.Writing.{Writing, IsBegun, KeepsTarget}
use Rattle.e57_plain.specs.Written.{plain}
use Rattle.e57_copy.specs.Ending.{Aim, EndsFile, EndsNot, LacksEnd, StaysHeadless, WritesFile, WritesNoFile}
use Rattle.e57_copy.specs.Rewriting.{CreatesFile, LacksHeader, LeavesPart}

module _ {T : Type 0} (view : T → TargetView) (old : TargetView) (name : List ℕ) (out : Writing T) (begun : IsBegun view old name out) where
  creates : (now : TargetView) → KeepsTarget (view out.target) now → CreatesFile old name now
  creates now keeps = record {
    created = keeps.created ∙ begun.created;
    named = subst (λ (given : Option (List ℕ)). MatchOption given (Unit {0}) (λ g. g ≡ name)) (sym keeps.named) begun.named;
    faults = let low = begun.faults in let high = keeps.faults in omega (arith, low, high);
  }

  left-part : (now : TargetView) → Leaves view out now → LeavesPart old name now
  left-part now left = record { unended = left.unended; unfinished = left.unfinished; creates = creates now left.target }

  told-same : (whole : List ℕ) → option_map (λ _. whole) out.told_bytes ≡ option_map (λ _. whole) old.held
  told-same whole = ap (option_map (λ _. whole)) begun.bytes ∙ by_held old.held
    where
      by_held : (held : Option (List ℕ)) → option_map (λ _. whole) (option_map (λ _. replicate {A = ℕ} 1020 0) held) ≡ option_map (λ _. whole) held
      by_held None = refl
      by_held (Some bytes) = refl

  lacks-same : (whole : List ℕ) (now : Option (List ℕ)) → LacksHeader whole out.told_bytes now → LacksHeader whole old.held now
  lacks-same whole now lacks = by_held old.held now (subst (λ (told : Option (List ℕ)). LacksHeader whole told now) begun.bytes lacks)
    where
      by_held : (held now : Option (List ℕ)) → LacksHeader whole (option_map (λ _. replicate {A = ℕ} 1020 0) held) now → LacksHeader whole held now
      by_held None now lacks = lacks
      by_held (Some bytes) None lacks = lacks
      by_held (Some bytes) (Some file) lacks = lacks

  module _ (aim : Aim) (now : TargetView) where
    written : (total : ℕ) → EndsFile view aim out total now → WritesFile aim old name total now
    written total ended = record {
      content = ended.content;
      is = ended.is;
      writable = ended.writable;
      held = ended.held ∙ told-same (plain aim.chunk ended.content);
      total = ended.total;
      ended = ended.ended;
      creates = creates now ended.target;
    }

    headless : Leaves view out now ⊎ StaysHeadless view aim out now → LeavesPart old name now ⊎ LacksEnd aim old name now
    headless (inl left) = inl (left-part now left)
    headless (inr lacks) = inr (record {
      content = lacks.content;
      is = lacks.is;
      writable = lacks.writable;
      held = lacks-same (plain aim.chunk lacks.content) now.held lacks.held;
      unended = lacks.unended;
      creates = creates now lacks.target;
    })

    not-written : (fault : RunFault) → EndsNot view aim out fault now → WritesNoFile aim old name fault now
    not-written (Refused found) lost = (left-part now lost.0, lost.1)
    not-written Source lost = (lost.0, left-part now lost.1)
    not-written Out lost = (rose_before old.faults (view out.target).faults now.faults begun.faults lost.0, inr (headless lost.1))
    not-written Memory lost = left-part now lost
    not-written (Ask why) lost = (left-part now lost.0, lost.1)

    pub written-or-not : (result : Result ℕ RunFault)
        → MatchResult result (λ total. EndsFile view aim out total now) (λ fault. EndsNot view aim out fault now)
        → MatchResult result (λ total. WritesFile aim old name total now) (λ fault. WritesNoFile aim old name fault now)
    written-or-not (Ok total) ended = written total ended
    written-or-not (Err fault) lost = not-written fault lost
