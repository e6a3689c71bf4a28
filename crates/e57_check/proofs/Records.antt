-- The packets, chunks and fields of a section, side by side.
use Rattle.std.specs.Prelude.{◌≡◌, ℕ, ◌+◌, ◌-◌, ◌<◌, ◌≤◌, ◌⊎◌, List, length, Option, Some, None, IfSome}
use Rattle.std.specs.Option.{option_or}
use Rattle.std.proofs.Common.{refl, sym, subst, ap, ◌∙◌, arith}
use Rattle.e57_base.proofs.CountLaws.{rose_before}
use Rattle.e57_base.specs.Fault.{read_as_open}
use Rattle.e57_base.specs.Source.{SourceView}
use Rattle.e57_base.proofs.Told.{told_map, told_both, told_here, told_all}
use Rattle.e57_base.specs.declared.fault.Fault.{Fault}
use Rattle.e57_base.specs.declared.fault.ReadFault.{ReadFault}
use Rattle.e57_base.specs.declared.fault.ReadFault.TheVariants as of_read
use Rattle.e57_base.specs.declared.fault.OpenFault.{OpenFault}
use Rattle.e57_base.specs.declared.fault.OpenFault.TheVariants.{Refused, Source, Memory}
use Rattle.e57_layout.specs.declared.field.Fixed.{Fixed}
use Rattle.e57_layout.specs.declared.section.Section.{Section}
use Rattle.e57_cloud.specs.Walk.{walk_from}
use Rattle.e57_cloud.specs.Chunks.{chunks, chunks_fault, data_packets, packets_by_chunk}
use Rattle.e57_cloud.specs.Cloud.{Leaf, fields_fault, body_fault, IsBodySound}
use Rattle.e57_column.specs.declared.state.State.{State}
use Rattle.e57_check.specs.Asking.{AsksWhere}
use Rattle.e57_check.proofs.AskingLaws.{asks_where_none, asks_where_on, asks_anywhere}
use Rattle.e57_check.specs.Starts.{AreStarts, by_starts, none_came}
use Rattle.e57_check.specs.Passing.{fault_from, IsWithin, Walks, WalksToEnd, IsWalkCause, WalksNot}
use Rattle.e57_check.specs.Judging.{ReadsNoRow, IsGiveUp, OpensColumns, JudgesBlock, GivesUp}
use Rattle.e57_check.specs.Clouds.{AreOf, IsIndexed, IsRecordsCause, JudgesRecords, RefusesRecords}
use Rattle.e57_check.specs.declared.starts.Starts.{Starts}
use Rattle.e57_check.specs.declared.starts.Starts.TheVariants.{Indexed, Counted}
use Rattle.e57_check.specs.declared.starts.Passed.{Passed}
use Rattle.e57_check.proofs.Starting.{starts-all}
use Rattle.e57_check.proofs.Blocks.{FieldsSoFar, fields-begin, block-asks, fields-step, fields-ended}
use Rattle.e57_base.proofs.Options.{option_or_parts}

-- ---- packets and chunks, and then fields

chunks-are : (file : List ℕ) (s : Section) (fixed : Option Fixed) (starts : Starts) → AreOf file s fixed starts → by_starts s starts (packets_by_chunk file s) ≡ chunks_fault file s fixed
unfolding chunks_fault
chunks-are file s fixed (Indexed es) are = rw (are.0, are.1) refl
chunks-are file s fixed (Counted f) are = rw (are.0, are.1) refl

from-begin : (file : List ℕ) (s : Section) (starts : Starts) → AreStarts s starts → fault_from file s starts s.data_place none_came ≡ option_or (walk_from file s s.data_place).fault (by_starts s starts (packets_by_chunk file s))
unfolding fault_from packets_by_chunk
from-begin file s starts are = ap (option_or (walk_from file s s.data_place).fault) (starts-all s starts (data_packets (walk_from file s s.data_place).packets) are)

packets-are : (file : List ℕ) (s : Section) (fixed : Option Fixed) (starts : Starts) → AreStarts s starts → IsIndexed file s fixed starts → fault_from file s starts s.data_place none_came ≡ option_or (walk_from file s s.data_place).fault (chunks_fault file s fixed)
packets-are file s fixed starts starting is = from-begin file s starts starting ∙ ap (option_or (walk_from file s s.data_place).fault) (chunks-are file s fixed starts is.are)

or-some : (a b c : Option Fault) (f : Fault) → option_or a b ≡ Some f → option_or a (option_or b c) ≡ Some f
or-some None (Some x) c f is = is
or-some None None c f is = cc
or-some (Some x) b c f is = is

-- a fault of the packets or chunks
body-packets : (file : List ℕ) (s : Section) (fixed : Option Fixed) (leaves : List Leaf) (starts : Starts) (f : Fault) → AreStarts s starts → IsIndexed file s fixed starts → fault_from file s starts s.data_place none_came ≡ Some f → body_fault file s fixed leaves ≡ Some f
unfolding body_fault
body-packets file s fixed leaves starts f starting indexed is =
    ap (λ (o : Option Fault). option_or o (option_or (walk_from file s s.data_place).fault (option_or (chunks_fault file s fixed) (fields_fault 0 leaves (chunks file s fixed))))) indexed.sound
    ∙ or-some (walk_from file s s.data_place).fault (chunks_fault file s fixed) (fields_fault 0 leaves (chunks file s fixed)) f (sym (packets-are file s fixed starts starting indexed) ∙ is)

-- none of them
body-fields : (file : List ℕ) (s : Section) (fixed : Option Fixed) (leaves : List Leaf) (starts : Starts) → 0 < s.count → AreStarts s starts → IsIndexed file s fixed starts → fault_from file s starts s.data_place none_came ≡ None
    → IsBodySound file s fixed × (body_fault file s fixed leaves ≡ fields_fault 0 leaves (chunks file s fixed))
unfolding body_fault
body-fields file s fixed leaves starts some starting indexed sound =
    let both = option_or_parts (walk_from file s s.data_place).fault (chunks_fault file s fixed) (sym (packets-are file s fixed starts starting indexed) ∙ sound) in (
      record { some = some; index = indexed.sound; packets = both.0; chunks_ok = both.1 },
      ap (λ (o : Option Fault). option_or o (option_or (walk_from file s s.data_place).fault (option_or (chunks_fault file s fixed) (fields_fault 0 leaves (chunks file s fixed))))) indexed.sound
          ∙ ap (λ (o : Option Fault). option_or o (option_or (chunks_fault file s fixed) (fields_fault 0 leaves (chunks file s fixed)))) both.0
          ∙ ap (λ (o : Option Fault). option_or o (fields_fault 0 leaves (chunks file s fixed))) both.1,
    )

-- ---- so far

-- What is known where packets were taken so far and the columns are at record a.
pub record SoFar (count : ℕ) (old : SourceView) (s : Section) (starts : Starts) (fixed : Option Fixed) (leaves : List Leaf) (r : Passed) (a : ℕ) (cs : List State) (found : Option Fault) (new : SourceView) : Type 0 where
  pub source : AsksWhere (λ file. Unit {0}) count old new
  pub within : IsWithin s r
  pub left : IfSome old.held (λ file. fault_from file s starts s.data_place none_came ≡ fault_from file s starts r.taken r.came)
  pub fields : FieldsSoFar old s fixed leaves a cs found

pub so-begin : (count : ℕ) (old new : SourceView) (s : Section) (starts : Starts) (fixed : Option Fixed) (leaves : List Leaf) (r : Passed) (cs : List State) (found : Option Fault) → r ≡ record { taken = s.data_place; came = none_came } → s.data_place ≤ s.end → OpensColumns count old s fixed leaves cs found new
    → SoFar count old s starts fixed leaves r 0 cs found new
so-begin count old new s starts fixed leaves r cs found is inside opens = rw is (record {
  source = opens.source;
  within = record { within = inside; counted = omega arith; starts = omega arith };
  left = told_all (λ file. fault_from file s starts s.data_place none_came ≡ fault_from file s starts s.data_place none_came) old.held (λ file. refl);
  fields = fields-begin count old new s fixed leaves cs found opens;
})

-- one block of records more
pub so-read : (count : ℕ) (old mid new : SourceView) (s : Section) (starts : Starts) (fixed : Option Fixed) (leaves : List Leaf) (r : Passed) (a n : ℕ) (cs cs' : List State) (found found' : Option Fault) → n ≤ s.count - a
    → SoFar count old s starts fixed leaves r a cs found mid → JudgesBlock count mid s cs found a n new cs' found' → SoFar count old s starts fixed leaves r (a + n) cs' found' new
so-read count old mid new s starts fixed leaves r a n cs cs' found found' few so block = record {
  source = block-asks count old mid new cs so.source so.fields.stand block.source;
  within = so.within;
  left = so.left;
  fields = fields-step count old mid new s fixed leaves a n cs cs' found found' few so.source.asks.same.held so.fields block;
}

-- what holds of the packets that are left holds of all
of-all : (P : Option Fault → Type 0) (held held' : Option (List ℕ)) (s : Section) (starts : Starts) (r : Passed) → held' ≡ held → IfSome held (λ file. fault_from file s starts s.data_place none_came ≡ fault_from file s starts r.taken r.came) → IfSome held' (λ file. P (fault_from file s starts r.taken r.came))
    → IfSome held (λ file. P (fault_from file s starts s.data_place none_came))
of-all P held held' s starts r same left told =
    told_both (λ file. fault_from file s starts s.data_place none_came ≡ fault_from file s starts r.taken r.came) (λ file. P (fault_from file s starts r.taken r.came)) (λ file. P (fault_from file s starts s.data_place none_came)) held
    (λ file left told. subst P (sym left) told) left (told_here (λ file. P (fault_from file s starts r.taken r.came)) held' held (sym same) told)

-- some packets more
pub so-walked : (count : ℕ) (old mid new : SourceView) (s : Section) (starts : Starts) (fixed : Option Fixed) (leaves : List Leaf) (r next : Passed) (a : ℕ) (cs : List State) (found : Option Fault)
    → SoFar count old s starts fixed leaves r a cs found mid → Walks count mid s starts r next new → SoFar count old s starts fixed leaves next a cs found new
so-walked count old mid new s starts fixed leaves r next a cs found so walks = record {
  source = asks_where_on (λ file. Unit {0}) count old mid new so.source (asks_anywhere (λ file. Unit {0}) count mid new walks.source);
  within = walks.within;
  left = told_both (λ file. fault_from file s starts s.data_place none_came ≡ fault_from file s starts r.taken r.came) (λ file. fault_from file s starts r.taken r.came ≡ fault_from file s starts next.taken next.came) (λ file. fault_from file s starts s.data_place none_came ≡ fault_from file s starts next.taken next.came) old.held
      (λ file all rest. all ∙ rest) so.left (told_here (λ file. fault_from file s starts r.taken r.came ≡ fault_from file s starts next.taken next.came) mid.held old.held (sym so.source.asks.same.held) walks.left);
  fields = so.fields;
}

-- ---- what is refused

pub no-memory : (count : ℕ) (view : SourceView) (s : Section) (starts : Starts) (fixed : Option Fixed) (leaves : List Leaf) → RefusesRecords count view s starts fixed leaves Memory view
no-memory count view s starts fixed leaves = record { source = asks_where_none (λ file. Unit {0}) count view; cause = tt }

give-up : (old mid : SourceView) (s : Section) (starts : Starts) (fixed : Option Fixed) (leaves : List Leaf) (fault : OpenFault) (new : SourceView) → old.faults ≤ mid.faults → IsGiveUp mid fault new → IsRecordsCause old s starts fixed leaves fault new
give-up old mid s starts fixed leaves (Refused found) new later gives = absurd gives
give-up old mid s starts fixed leaves Source new later gives = rose_before old.faults mid.faults new.faults later gives
give-up old mid s starts fixed leaves Memory new later gives = tt

-- no column was opened
pub unopened : (count : ℕ) (old new : SourceView) (s : Section) (starts : Starts) (fixed : Option Fixed) (leaves : List Leaf) (fault : OpenFault) → GivesUp count old fault new → RefusesRecords count old s starts fixed leaves fault new
unopened count old new s starts fixed leaves fault gives = record { source = gives.source; cause = give-up old old s starts fixed leaves fault new (omega arith) gives.cause }

-- a block wasn't read
pub so-lost : (count : ℕ) (old mid new : SourceView) (s : Section) (starts : Starts) (fixed : Option Fixed) (leaves : List Leaf) (r : Passed) (a : ℕ) (cs : List State) (found : Option Fault) (fault : OpenFault)
    → SoFar count old s starts fixed leaves r a cs found mid → ReadsNoRow count mid cs fault new → RefusesRecords count old s starts fixed leaves fault new
so-lost count old mid new s starts fixed leaves r a cs found fault so lost = record {
  source = block-asks count old mid new cs so.source so.fields.stand lost.source;
  cause = give-up old mid s starts fixed leaves fault new so.source.asks.faults lost.cause;
}

-- a packet or a chunk has a fault
walk-cause : (old mid new : SourceView) (s : Section) (starts : Starts) (fixed : Option Fixed) (leaves : List Leaf) (r : Passed) (fault : ReadFault) → AreStarts s starts → mid.held ≡ old.held → old.faults ≤ mid.faults
    → IfSome old.held (λ file. fault_from file s starts s.data_place none_came ≡ fault_from file s starts r.taken r.came) → IsWalkCause mid s starts r fault new → IsRecordsCause old s starts fixed leaves (read_as_open fault) new
walk-cause old mid new s starts fixed leaves r (of_read.Refused f) starting same later left cause =
    told_map (λ file. fault_from file s starts s.data_place none_came ≡ Some f) (λ file. IsIndexed file s fixed starts → body_fault file s fixed leaves ≡ Some f) old.held
    (λ file is indexed. body-packets file s fixed leaves starts f starting indexed is)
    (of-all (λ (o : Option Fault). o ≡ Some f) old.held mid.held s starts r same left cause)
walk-cause old mid new s starts fixed leaves r of_read.Source starting same later left cause = rose_before old.faults mid.faults new.faults later cause

pub so-refused : (count : ℕ) (old mid new : SourceView) (s : Section) (starts : Starts) (fixed : Option Fixed) (leaves : List Leaf) (r : Passed) (a : ℕ) (cs : List State) (found : Option Fault) (fault : ReadFault) (given : OpenFault) → AreStarts s starts → given ≡ read_as_open fault
    → SoFar count old s starts fixed leaves r a cs found mid → WalksNot count mid s starts r fault new → RefusesRecords count old s starts fixed leaves given new
so-refused count old mid new s starts fixed leaves r a cs found fault given starting is so lost = rw is (record {
  source = asks_where_on (λ file. Unit {0}) count old mid new so.source (asks_anywhere (λ file. Unit {0}) count mid new lost.source);
  cause = walk-cause old mid new s starts fixed leaves r fault starting so.source.asks.same.held so.source.asks.faults so.left lost.cause;
})

-- ---- the end

so-judged : (count : ℕ) (old mid new : SourceView) (s : Section) (starts : Starts) (fixed : Option Fixed) (leaves : List Leaf) (r : Passed) (a : ℕ) (cs : List State) (found : Option Fault) → 0 < s.count → AreStarts s starts → (s.count ≤ a) ⊎ (length cs ≡ 0)
    → SoFar count old s starts fixed leaves r a cs found mid → WalksToEnd count mid s starts r new → IfSome old.held (λ file. IsIndexed file s fixed starts → body_fault file s fixed leaves ≡ found)
so-judged count old mid new s starts fixed leaves r a cs found some starting how so walks =
    told_both (λ file. fault_from file s starts s.data_place none_came ≡ None) (λ file. IsBodySound file s fixed → fields_fault 0 leaves (chunks file s fixed) ≡ found) (λ file. IsIndexed file s fixed starts → body_fault file s fixed leaves ≡ found) old.held
    (λ file none is indexed. let both = body-fields file s fixed leaves starts some starting indexed none in both.1 ∙ is both.0)
    (of-all (λ (o : Option Fault). o ≡ None) old.held mid.held s starts r so.source.asks.same.held so.left walks.sound)
    (fields-ended old s fixed leaves a cs found how so.fields)

so-asked : (count : ℕ) (old mid new : SourceView) (s : Section) (starts : Starts) (fixed : Option Fixed) (leaves : List Leaf) (r : Passed) (a : ℕ) (cs : List State) (found : Option Fault) → SoFar count old s starts fixed leaves r a cs found mid → WalksToEnd count mid s starts r new → AsksWhere (λ file. Unit {0}) count old new
so-asked count old mid new s starts fixed leaves r a cs found so walks = asks_where_on (λ file. Unit {0}) count old mid new so.source (asks_anywhere (λ file. Unit {0}) count mid new walks.source)

pub so-sound : (count : ℕ) (old mid new : SourceView) (s : Section) (starts : Starts) (fixed : Option Fixed) (leaves : List Leaf) (r : Passed) (a : ℕ) (cs : List State) (found : Option Fault) → found ≡ None → 0 < s.count → AreStarts s starts → (s.count ≤ a) ⊎ (length cs ≡ 0)
    → SoFar count old s starts fixed leaves r a cs found mid → WalksToEnd count mid s starts r new → JudgesRecords count old s starts fixed leaves new
so-sound count old mid new s starts fixed leaves r a cs found none some starting how so walks = record {
  source = so-asked count old mid new s starts fixed leaves r a cs found so walks;
  sound = subst (λ (o : Option Fault). IfSome old.held (λ file. IsIndexed file s fixed starts → body_fault file s fixed leaves ≡ o)) none (so-judged count old mid new s starts fixed leaves r a cs found some starting how so walks);
}

pub so-faulty : (count : ℕ) (old mid new : SourceView) (s : Section) (starts : Starts) (fixed : Option Fixed) (leaves : List Leaf) (r : Passed) (a : ℕ) (cs : List State) (found : Option Fault) (f : Fault) → found ≡ Some f → 0 < s.count → AreStarts s starts → (s.count ≤ a) ⊎ (length cs ≡ 0)
    → SoFar count old s starts fixed leaves r a cs found mid → WalksToEnd count mid s starts r new → RefusesRecords count old s starts fixed leaves (Refused f) new
so-faulty count old mid new s starts fixed leaves r a cs found f is some starting how so walks = record {
  source = so-asked count old mid new s starts fixed leaves r a cs found so walks;
  cause = subst (λ (o : Option Fault). IfSome old.held (λ file. IsIndexed file s fixed starts → body_fault file s fixed leaves ≡ o)) is (so-judged count old mid new s starts fixed leaves r a cs found some starting how so walks);
}
