-- The shape of a data packet, from its bytes.
use Rattle.std.specs.Prelude.{◌≡◌, ℕ, true, List, take, drop, Some, None, IfSome}
use Rattle.std.proofs.Common.{refl, subst, ap}
use Rattle.e57_base.specs.Fault.{fault}
use Rattle.e57_base.specs.Source.{SourceView}
use Rattle.e57_base.proofs.Told.{told_map, told_both}
use Rattle.e57_base.specs.declared.fault.ReadFault.{ReadFault}
use Rattle.e57_base.specs.declared.fault.ReadFault.TheVariants.{Refused, Source}
use Rattle.e57_base.specs.declared.kind.Kind.{Kind}
use Rattle.e57_base.specs.declared.kind.Kind.TheVariants.{DataShape}
use Rattle.e57_page.specs.File.{logical, span_fault}
use Rattle.e57_packet.specs.Reading.{is_misshapen}
use Rattle.e57_section.specs.Steps.{is_packet_kind, data_fault, IsSpanCause, IsDataCause}

-- a wrong page is the first fault
pub data_page : (old new : SourceView) (node q n fields : ℕ) (found : ReadFault) → IsSpanCause old q n found new → IsDataCause old node q n fields found new
data_page old new node q n fields (Refused found) cause = (
  ap (λ (k : Kind). is_packet_kind k) cause.0,
  told_map (λ file. span_fault file q n ≡ Some found) (λ file. data_fault file node q n fields ≡ Some found) old.held (λ file e. rw e refl) cause.1,
)
data_page old new node q n fields Source cause = cause

pub data_shape : (old : SourceView) (bytes : List ℕ) (node q n fields : ℕ) → is_misshapen bytes fields ≡ true → IfSome old.held (λ file. span_fault file q n ≡ None) → IfSome old.held (λ file. bytes ≡ take n (drop q (logical file))) → IfSome old.held (λ file. data_fault file node q n fields ≡ Some (fault DataShape node q))
data_shape old bytes node q n fields wrong right read =
    told_both (λ file. span_fault file q n ≡ None) (λ file. bytes ≡ take n (drop q (logical file))) (λ file. data_fault file node q n fields ≡ Some (fault DataShape node q)) old.held
    (λ file sound is. let here = subst (λ (b : List ℕ). is_misshapen b fields ≡ true) is wrong in rw (sound, here) refl) right read
