-- Laws of several calls in a row that write one file.
use Rattle.std.proofs.Common.{◌≡◌, ℕ, ◌+◌, ◌/◌, ◌<◌, ◌≤◌, true, List, [], ◌++◌, length, Option, Some, None, refl, sym, ap, subst, ◌∙◌, arith, add-zero}
use Rattle.std.specs.Option.{option_map}
use Rattle.std.proofs.lemmas.List.{append_assoc, append-nil, length-append}
use Rattle.e57_base.proofs.CountLaws.{rose_before}
use Rattle.e57_base.specs.Target.{TargetView}
use Rattle.e57_base.specs.declared.fault.PutFault.{PutFault}
use Rattle.e57_base.specs.declared.fault.PutFault.TheVariants.{Target, Large}
use Rattle.e57_page_out.specs.Sequences.{Puts, Leaves, Loses}
use Rattle.e57_page_out.specs.Writing.{Writing, Writes, KeepsTarget, IsBeingWritten, IsBrokenOff, IsNotPut, most_bytes}
use Rattle.e57_page_out.proofs.WritingLaws.{keeps_none, keeps_both}

-- two pieces that are put are one
pub puts_both : {T : Type 0} (view : T → TargetView) (a b c : Writing T) (x y : List ℕ) → Puts view a x b → Puts view b y c → Puts view a (x ++ y) c
puts_both view a b c x y first next =
    record {
      bytes = next.bytes ∙ ap (option_map (λ (xs : List ℕ). xs ++ y)) first.bytes ∙ joined a.told_bytes;
      size = let low = first.size in let high = next.size in omega (arith, length-append x y);
      held = next.held ∙ first.held;
      state = next.state;
      target = keeps_both (view a.target) (view b.target) (view c.target) first.target next.target;
    }
  where
    joined : (told : Option (List ℕ)) → option_map (λ (xs : List ℕ). xs ++ y) (option_map (λ (xs : List ℕ). xs ++ x) told) ≡ option_map (λ (xs : List ℕ). xs ++ (x ++ y)) told
    joined None = refl
    joined (Some bytes) = ap Some (append_assoc bytes x y)

-- nothing was put
pub puts_nothing : {T : Type 0} (view : T → TargetView) (out : Writing T) → IsBeingWritten view out → Puts view out [] out
puts_nothing view out state = record { bytes = same out.told_bytes; size = sym (add-zero out.size); held = refl; state = state; target = keeps_none (view out.target) } where
  same : (told : Option (List ℕ)) → told ≡ option_map (λ (xs : List ℕ). xs ++ []) told
  same None = refl
  same (Some bytes) = ap Some (sym (append-nil bytes))

pub leaves_still : {T : Type 0} (view : T → TargetView) (out : Writing T) → IsBeingWritten view out → Leaves view out (view out.target)
leaves_still view out state = record { unended = state.unended; unfinished = state.unfinished; target = keeps_none (view out.target) }

-- a page that was not put
pub leaves_page : {T : Type 0} (view : T → TargetView) (old : Writing T) (high : ℕ) (new : Writing T) → IsBrokenOff view old high new → Leaves view old (view new.target)
leaves_page view old high new broken = record { unended = broken.unended; unfinished = broken.unfinished; target = broken.target }

pub loses_page : {T : Type 0} (view : T → TargetView) (old : Writing T) (high : ℕ) (past : Type 0) (new : Writing T) → IsBrokenOff view old high new → Loses view old past Target (view new.target)
loses_page view old high past new broken = (leaves_page view old high new broken, broken.cause)

-- bytes that were not put
pub loses_piece : {T : Type 0} (view : T → TargetView) (old : Writing T) (n : ℕ) (fault : PutFault) (new : Writing T) → IsNotPut view old n fault new → Loses view old (most_bytes < old.size + n) fault (view new.target)
loses_piece view old n Target new lost = loses_page view old ((old.size + n) / 1020) (most_bytes < old.size + n) new lost.1
loses_piece view old n Large new lost =
    let same : view new.target ≡ view old.target = ap view lost.target in
    let kept : KeepsTarget (view old.target) (view new.target) = subst (λ t. KeepsTarget (view old.target) t) (sym same) (keeps_none (view old.target)) in
    (record { unended = lost.unended; unfinished = lost.unfinished; target = kept }, lost.past)

pub spent_piece : {T : Type 0} (view : T → TargetView) (old : Writing T) (n : ℕ) (fault : PutFault) (new : Writing T) → IsNotPut view old n fault new → new.is_spent ≡ true
spent_piece view old n Target new lost = lost.1.spent
spent_piece view old n Large new lost = lost.spent

-- what a failure leaves after a call that was done
pub leaves_later : {T : Type 0} (view : T → TargetView) (a b : Writing T) (now : TargetView) → KeepsTarget (view a.target) (view b.target) → Leaves view b now → Leaves view a now
leaves_later view a b now done left =
    record {
      unended = left.unended;
      unfinished = left.unfinished;
      target = keeps_both (view a.target) (view b.target) now done left.target;
    }

-- a failure after a call that was done
pub loses_later : {T : Type 0} (view : T → TargetView) (a b : Writing T) (told : Option (List ℕ)) (count : ℕ) (page : Option ℕ) (past more : Type 0) (fault : PutFault) (now : TargetView)
    → Writes view a told count page b → Loses view b past fault now → (past → more) → Loses view a more fault now
loses_later view a b told count page past more Target now done lost wider =
    (leaves_later view a b now done.target lost.0, rose_before (view a.target).faults (view b.target).faults now.faults done.target.faults lost.1)
loses_later view a b told count page past more Large now done lost wider = (leaves_later view a b now done.target lost.0, wider lost.1)

-- what is too large is said in wider terms
pub loses_wider : {T : Type 0} (view : T → TargetView) (old : Writing T) (past more : Type 0) (fault : PutFault) (now : TargetView) → (past → more) → Loses view old past fault now → Loses view old more fault now
loses_wider view old past more Target now wider lost = lost
loses_wider view old past more Large now wider lost = (lost.0, wider lost.1)

-- a failure at a part of so many bytes, after those before it: all of them are `whole` or more
pub loses_part : {T : Type 0} (view : T → TargetView) (a b : Writing T) (front : List ℕ) (part whole : ℕ) (fault : PutFault) (now : TargetView)
    → Puts view a front b → length front + part ≤ whole → Loses view b (most_bytes < b.size + part) fault now → Loses view a (most_bytes < a.size + whole) fault now
loses_part view a b front part whole fault now puts within lost =
    let size = puts.size in
    loses_later view a b (option_map (λ (xs : List ℕ). xs ++ front) a.told_bytes) (a.size + length front) a.held (most_bytes < b.size + part) (most_bytes < a.size + whole) fault now puts lost (λ past. omega arith)
