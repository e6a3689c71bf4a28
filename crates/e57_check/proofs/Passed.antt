-- The packets of a section, one after another.
use Rattle.std.specs.Prelude.{◌≡◌, ℕ, ◌+◌, ◌<◌, ◌≤◌, true, false, List, [], ◌∷◌, Option, Some, None, IfSome}
use Rattle.std.specs.Option.{option_or}
use Rattle.std.proofs.Common.{refl, sym, subst, ap, ◌∙◌, arith, ⊎_elim}
use Rattle.std.proofs.lemmas.Bool.{cases_Bool, cond-true, cond-false}
use Rattle.e57_base.proofs.CountLaws.{rose_before}
use Rattle.e57_base.specs.Source.{SourceView}
use Rattle.e57_base.proofs.Told.{told_map, told_both, told_here, told_all}
use Rattle.e57_base.specs.declared.fault.Fault.{Fault}
use Rattle.e57_base.specs.declared.fault.ReadFault.{ReadFault}
use Rattle.e57_base.specs.declared.fault.ReadFault.TheVariants.{Refused, Source}
use Rattle.e57_page.specs.File.{logical}
use Rattle.e57_layout.specs.Packets.{length_at}
use Rattle.e57_layout.specs.declared.section.Section.{Section}
use Rattle.e57_cloud.specs.Walk.{Packet, Walk, packet_at, packet_fault, walk_from}
use Rattle.e57_cloud.specs.Chunks.{data_packets}
use Rattle.e57_cloud.proofs.Laws.Pieces.{data-yes, data-other, data-none}
use Rattle.e57_cloud.proofs.Laws.Fronts.{walk_from-end, walk_from-step, walk_from-fault, packet-length}
use Rattle.e57_check.proofs.AskingLaws.{asks_pages_none, asks_pages_on}
use Rattle.e57_check.specs.Starts.{arrived, float_bytes, left_fault, rest_fault}
use Rattle.e57_check.specs.Passing.{fault_from, IsWithin, Walks, IsAsFar, WalksToEnd, WalksNot, came_with, Steps, StepsNot}
use Rattle.e57_check.specs.declared.starts.Starts.{Starts}
use Rattle.e57_check.specs.declared.starts.Came.{Came}
use Rattle.e57_check.specs.declared.starts.Passed.{Passed}
use Rattle.e57_check.proofs.Starting.{rest-none, rest-next}

from-walk : (file : List ℕ) (s : Section) (starts : Starts) (q : ℕ) (came : Came) (w : Walk) → walk_from file s q ≡ w → fault_from file s starts q came ≡ option_or w.fault (rest_fault s starts came (data_packets w.packets))
unfolding fault_from
from-walk file s starts q came w is = ap (λ (x : Walk). option_or x.fault (rest_fault s starts came (data_packets x.packets))) is

-- one packet more
rest-with : (s : Section) (starts : Starts) (came : Came) (p : Packet) (ps : List Packet) → rest_fault s starts came (data_packets (p ∷ ps)) ≡ rest_fault s starts (came_with s starts came p) (data_packets ps)
rest-with s starts came p ps =
    ⊎_elim
    (λ (is : p.is_data ≡ true).
    ap (rest_fault s starts came) (data-yes p ps is)
    ∙ rest-next s starts came p (data_packets ps)
    ∙ ap (λ (c : Came). rest_fault s starts c (data_packets ps)) (sym (cond-true p.is_data (arrived s starts came p.place p.restart (float_bytes starts p.streams)) came is)))
    (λ (other : p.is_data ≡ false).
    ap (rest_fault s starts came) (data-other p ps other)
    ∙ ap (λ (c : Came). rest_fault s starts c (data_packets ps)) (sym (cond-false p.is_data (arrived s starts came p.place p.restart (float_bytes starts p.streams)) came other)))
    (cases_Bool p.is_data)

pub from-step : (file : List ℕ) (s : Section) (starts : Starts) (q next : ℕ) (came came' : Came) → q + 4 ≤ s.end → packet_fault file s q ≡ None → next ≡ q + (packet_at (logical file) q).length → came' ≡ came_with s starts came (packet_at (logical file) q)
    → fault_from file s starts q came ≡ fault_from file s starts next came'
from-step file s starts q next came came' there sound long is =
    let p = packet_at (logical file) q in
    let rest = walk_from file s (q + length_at (logical file) q) in
    let place : q + length_at (logical file) q ≡ next = ap (λ (n : ℕ). q + n) (sym (packet-length (logical file) q)) ∙ sym long in
    let walked : walk_from file s q ≡ record { packets = p ∷ rest.packets; fault = rest.fault } = rw (walk_from-step file s q there, sound) refl in
    from-walk file s starts q came (record { packets = p ∷ rest.packets; fault = rest.fault }) walked
    ∙ ap (option_or rest.fault) (rest-with s starts came p rest.packets)
    ∙ ap (λ (c : Came). option_or rest.fault (rest_fault s starts c (data_packets rest.packets))) (sym is)
    ∙ sym (from-walk file s starts (q + length_at (logical file) q) came' rest refl)
    ∙ ap (λ (n : ℕ). fault_from file s starts n came') place

pub from-faulty : (file : List ℕ) (s : Section) (starts : Starts) (q : ℕ) (came : Came) (found : Fault) → q + 4 ≤ s.end → packet_fault file s q ≡ Some found → fault_from file s starts q came ≡ Some found
from-faulty file s starts q came found there is = from-walk file s starts q came (record { packets = []; fault = Some found }) (walk_from-fault file s q found there is)

pub from-end : (file : List ℕ) (s : Section) (starts : Starts) (q : ℕ) (came : Came) → s.end < q + 4 → fault_from file s starts q came ≡ left_fault s starts came
from-end file s starts q came over =
    from-walk file s starts q came (record { packets = []; fault = None }) (walk_from-end file s q over)
    ∙ ap (rest_fault s starts came) data-none
    ∙ rest-none s starts came

pub walks-none : (count : ℕ) (view : SourceView) (s : Section) (starts : Starts) (r : Passed) → IsWithin s r → Walks count view s starts r r view
walks-none count view s starts r within = record {
  source = asks_pages_none count view;
  within = within;
  left = told_all (λ file. fault_from file s starts r.taken r.came ≡ fault_from file s starts r.taken r.came) view.held (λ file. refl);
}

pub walks-step : (count : ℕ) (old mid new : SourceView) (s : Section) (starts : Starts) (r here next : Passed) → here.taken + 4 ≤ s.end → Walks count old s starts r here mid → Steps count mid s starts here next new → Walks count old s starts r next new
walks-step count old mid new s starts r here next there walks steps = record {
  source = asks_pages_on count old mid new walks.source steps.source;
  within = steps.within;
  left = told old.held mid.held walks.source.asks.same.held walks.left steps.sound steps.long steps.came;
}
  where
    told : (held held' : Option (List ℕ)) → held' ≡ held → IfSome held (λ file. fault_from file s starts r.taken r.came ≡ fault_from file s starts here.taken here.came)
        → IfSome held' (λ file. packet_fault file s here.taken ≡ None) → IfSome held' (λ file. next.taken ≡ here.taken + (packet_at (logical file) here.taken).length) → IfSome held' (λ file. next.came ≡ came_with s starts here.came (packet_at (logical file) here.taken))
        → IfSome held (λ file. fault_from file s starts r.taken r.came ≡ fault_from file s starts next.taken next.came)
    told None held' same left sound long came = tt
    told (Some file) None same left sound long came = absurd cc
    told (Some file) (Some f) same left sound long came =
        let e : f ≡ file = cc in
        let sound' = subst (λ (x : List ℕ). packet_fault x s here.taken ≡ None) e sound in
        let long' = subst (λ (x : List ℕ). next.taken ≡ here.taken + (packet_at (logical x) here.taken).length) e long in
        let came' = subst (λ (x : List ℕ). next.came ≡ came_with s starts here.came (packet_at (logical x) here.taken)) e came in
        left ∙ from-step file s starts here.taken next.taken here.came next.came there sound' long' came'

-- what is refused behind some packets
refused-behind : (old mid : SourceView) (s : Section) (starts : Starts) (r here : Passed) (outcome : Option Fault) → mid.held ≡ old.held → IfSome old.held (λ file. fault_from file s starts r.taken r.came ≡ fault_from file s starts here.taken here.came)
    → IfSome mid.held (λ file. fault_from file s starts here.taken here.came ≡ outcome) → IfSome old.held (λ file. fault_from file s starts r.taken r.came ≡ outcome)
refused-behind old mid s starts r here outcome same left is =
    told_both (λ file. fault_from file s starts r.taken r.came ≡ fault_from file s starts here.taken here.came) (λ file. fault_from file s starts here.taken here.came ≡ outcome) (λ file. fault_from file s starts r.taken r.came ≡ outcome) old.held
    (λ file left is. left ∙ is) left (told_here (λ file. fault_from file s starts here.taken here.came ≡ outcome) mid.held old.held (sym same) is)

pub walks-refused : (count : ℕ) (old mid new : SourceView) (s : Section) (starts : Starts) (r here : Passed) (found : ReadFault) → here.taken + 4 ≤ s.end → Walks count old s starts r here mid → StepsNot count mid s here found new → WalksNot count old s starts r found new
walks-refused count old mid new s starts r here (Refused found) there walks lost = record {
  source = asks_pages_on count old mid new walks.source lost.source;
  cause = refused-behind old mid s starts r here (Some found) walks.source.asks.same.held walks.left
      (told_map (λ file. packet_fault file s here.taken ≡ Some found) (λ file. fault_from file s starts here.taken here.came ≡ Some found) mid.held (λ file is. from-faulty file s starts here.taken here.came found there is) lost.cause.1);
}
walks-refused count old mid new s starts r here Source there walks lost = record {
  source = asks_pages_on count old mid new walks.source lost.source;
  cause = rose_before old.faults mid.faults new.faults walks.source.asks.faults lost.cause;
}

-- ---- the end of the section

ended : (old : SourceView) (s : Section) (starts : Starts) (r here : Passed) (outcome : Option Fault) → IsAsFar s s.end here → outcome ≡ left_fault s starts here.came → IfSome old.held (λ file. fault_from file s starts r.taken r.came ≡ fault_from file s starts here.taken here.came)
    → IfSome old.held (λ file. fault_from file s starts r.taken r.came ≡ outcome)
ended old s starts r here outcome far is left =
    let over : s.end < here.taken + 4 = ⊎_elim (λ (past : s.end ≤ here.taken). omega (arith, past)) (λ (past : s.end < here.taken + 4). past) far in
    told_map (λ file. fault_from file s starts r.taken r.came ≡ fault_from file s starts here.taken here.came) (λ file. fault_from file s starts r.taken r.came ≡ outcome) old.held
    (λ file left. left ∙ from-end file s starts here.taken here.came over ∙ sym is) left

pub ended-sound : (count : ℕ) (old new : SourceView) (s : Section) (starts : Starts) (r here : Passed) → IsAsFar s s.end here → None ≡ left_fault s starts here.came → Walks count old s starts r here new → WalksToEnd count old s starts r new
ended-sound count old new s starts r here far is walks = record { source = walks.source; sound = ended old s starts r here None far is walks.left }

pub ended-refused : (count : ℕ) (old new : SourceView) (s : Section) (starts : Starts) (r here : Passed) (found : Fault) → IsAsFar s s.end here → Some found ≡ left_fault s starts here.came → Walks count old s starts r here new → WalksNot count old s starts r (Refused found) new
ended-refused count old new s starts r here found far is walks = record { source = walks.source; cause = ended old s starts r here (Some found) far is walks.left }
