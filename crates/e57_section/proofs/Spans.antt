-- What a read of a range that was cut says of its span.
use Rattle.std.specs.Prelude.{◌≡◌, ℕ, ◌/◌, ◌<◌, ◌≤◌, true, List, length}
use Rattle.std.proofs.Common.{subst, ap, inl, inr, ⊎_elim, arith}
use Rattle.e57_base.specs.Source.{SourceView}
use Rattle.e57_base.specs.declared.fault.Fault.{Fault}
use Rattle.e57_base.specs.declared.fault.ReadFault.{ReadFault}
use Rattle.e57_base.specs.declared.fault.ReadFault.TheVariants.{Refused, Source}
use Rattle.e57_base.specs.declared.kind.Kind.TheVariants.{Page}
use Rattle.e57_page.specs.declared.pages.Cut.{Cut}
use Rattle.e57_page.specs.Place.{span_end}
use Rattle.e57_page.specs.Kept.{is_kept, KeepsTo}
use Rattle.e57_page.specs.Pages.{IsCutAt, IsStopped}
use Rattle.e57_page.proofs.PagesLaws.{cut_below, cut_fault, cut_source}
use Rattle.e57_section.specs.Asking.{KeepsSpan, KeepsOnly}
use Rattle.e57_section.specs.Steps.{IsSpanCause}

-- what is kept after a span is of the span, or was kept
pub keeps_only : (old now : List ℕ) (q n m : ℕ) → m ≤ span_end q n → KeepsTo old (q / 1020) m (span_end q n) now → KeepsOnly old q n now
keeps_only old now q n m within keeps k is =
    ⊎_elim
    (λ (before : is_kept old k ≡ true). inl before)
    (λ (here : (q / 1020 ≤ k) × (k < m)). inr (here.0, omega (arith, here.1, within)))
    (keeps.no_other k is)

pub keeps_only_span : (old now : List ℕ) (q n : ℕ) → KeepsSpan old q n now → KeepsOnly old q n now
keeps_only_span old now q n keeps = keeps_only old now q n (span_end q n) (omega arith) keeps

pub cut_keeps : (old new : SourceView) (kept now : List ℕ) (q n : ℕ) (before after : List ℕ) (cut : Cut) → IsCutAt old kept q before cut after n new now → KeepsOnly kept q (length before) now
cut_keeps old new kept now q n before after cut is =
    let below = cut_below q cut.done (length before) n is.short is.place in
    keeps_only kept now q (length before) n (omega arith) is.keeps

page_kind : (stopped : Fault) (n : ℕ) → stopped ≡ record { kind = Page; a = n; b = 0 } → stopped.kind ≡ Page
page_kind stopped n is = ap (λ (f : Fault). f.kind) is

-- why it was cut
pub cut_cause : (old new : SourceView) (kept now : List ℕ) (q n : ℕ) (before after : List ℕ) (cut : Cut) (found : ReadFault) → cut.fault ≡ found → IsCutAt old kept q before cut after n new now → IsSpanCause old q (length before) found new
cut_cause old new kept now q n before after cut (Refused found) e is =
    let stopped = subst (λ (fault : ReadFault). IsStopped old n fault new) e is.cause in
    (page_kind found n stopped.0, cut_fault old new kept now q n before after cut found e is)
cut_cause old new kept now q n before after cut Source e is = cut_source old new kept now q n before after cut e is
