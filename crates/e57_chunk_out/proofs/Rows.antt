-- Laws of turns in a row.
use Rattle.std.proofs.Common.{◌≡◌, ℕ, ◌+◌, ◌-◌, ◌%◌, ◌<◌, ◌≤◌, List, [], ◌∷◌, length, refl, sym, ap, subst, ◌∙◌, arith, inl, inr, ⊎_elim, add-zero}
use Rattle.std.specs.Prelude.{◌⊎◌}
use Rattle.std.specs.List.{AllByRecursion}
use Rattle.std.proofs.lemmas.List.{drop-drop}
use Rattle.e57_base.specs.Target.{TargetView}
use Rattle.e57_base.specs.declared.fault.WriteFault.{WriteFault}
use Rattle.e57_layout.specs.Values.{ItemKind, Value}
use Rattle.e57_layout.specs.Items.{AreColumns}
use Rattle.e57_layout.specs.Packing.{later_records}
use Rattle.e57_page_out.specs.Writing.{Writing, IsBeingWritten, most_bytes}
use Rattle.e57_page_out.proofs.WritingLaws.{keeps_none, keeps_both}
use Rattle.e57_chunk_out.specs.Waiting.{Waiting}
use Rattle.e57_chunk_out.specs.SideBySide.{Has, HasText}
use Rattle.e57_chunk_out.specs.Grouping.{kinds_of, columns_of}
use Rattle.e57_chunk_out.specs.Going.{AreGroups, LosesRecords}
use Rattle.e57_chunk_out.specs.Turns.{data_end, AreNext, IsChunked, IsOnWay, PassesAt, Turns}
use Rattle.e57_chunk_out.specs.CloudCalls.{HasStrings}
use Rattle.e57_chunk_out.specs.declared.turn.Chunks.{Chunks}
use Rattle.e57_chunk_out.proofs.Advancing.{loses_behind}

-- ---- records that are left

pub later-later : (i j : ℕ) (cs : List (List Value)) → later_records (i + j) cs ≡ later_records j (later_records i cs)
unfolding later_records
later-later i j [] = refl
later-later i j (c ∷ cs) = rw (drop-drop j i c, later-later i j cs) refl

pub later-zero : (cs : List (List Value)) → later_records 0 cs ≡ cs
unfolding later_records
later-zero [] = refl
later-zero (c ∷ cs) = ap (λ (rest : List (List Value)). c ∷ rest) (later-zero cs)

-- ---- fields by their columns and kinds

-- so many items of each column
abbrev pub AreLong : ℕ → List (List Value) → Type 0
AreLong n columns = AllByRecursion (λ (column : List Value). n ≤ length column) columns

pub long-has : (n : ℕ) (fields : List Waiting) → AllByRecursion (Has n) fields → AreLong n (columns_of fields)
long-has n [] h = tt
long-has n (w ∷ fields) h = (h.0, long-has n fields h.1)

pub has-long : (n : ℕ) (fields : List Waiting) → AreLong n (columns_of fields) → AllByRecursion (Has n) fields
has-long n [] h = tt
has-long n (w ∷ fields) h = (h.0, has-long n fields h.1)

-- the same columns have as many items
pub has-same : (n : ℕ) (fields others : List Waiting) → columns_of others ≡ columns_of fields → AllByRecursion (Has n) fields → AllByRecursion (Has n) others
has-same n fields others same h = has-long n others (subst (AreLong n) (sym same) (long-has n fields h))

pub strings-text : (fields : List Waiting) → HasText fields → HasStrings (kinds_of fields)
strings-text [] h = h
strings-text (w ∷ fields) (inl e) = inl e
strings-text (w ∷ fields) (inr h) = inr (strings-text fields h)

pub text-strings : (fields : List Waiting) → HasStrings (kinds_of fields) → HasText fields
text-strings [] h = h
text-strings (w ∷ fields) (inl e) = inl e
text-strings (w ∷ fields) (inr h) = inr (text-strings fields h)

pub text-same : (fields others : List Waiting) → kinds_of others ≡ kinds_of fields → HasText others → HasText fields
text-same fields others same h = text-strings fields (subst HasStrings same (strings-text others h))

-- ---- turns

module _ {T : Type 0} (view : T → TargetView) (e until : ℕ) (fields : List Waiting) (chunks : Chunks) (out : Writing T) where
  -- some were done
  pub record IsTurned (from : ℕ) (fields_now : List Waiting) (chunks_now : Chunks) (now : Writing T) : Type 0 where
    pub way : Turns view e 0 from fields chunks out fields_now chunks_now now
    pub order : from ≤ until
    pub groups : (from ≡ until) ⊎ (from % 8 ≡ 0)

  pub turned_first : IsBeingWritten view out → IsChunked e fields chunks → IsTurned 0 fields chunks out
  turned_first state chunked = record {
    way = record {
      chunked = subst (λ m. IsChunked m fields chunks) (sym (add-zero e)) chunked;
      kinds = refl;
      columns = refl;
      records = refl;
      at_most = refl;
      state = state;
      target = keeps_none (view out.target);
      held = refl;
      grows = omega arith;
      way = λ before start count cs next there way. subst (λ m. IsOnWay before start m cs fields chunks out) (sym (add-zero e)) way;
    };
    order = omega arith;
    groups = inr refl;
  }

  module _ (from : ℕ) (fields_mid : List Waiting) (chunks_mid : Chunks) (mid : Writing T) (turned : IsTurned from fields_mid chunks_mid mid) where
    -- what is left
    next_rows : (count : ℕ) (cs : List (List Value)) → AreNext count cs e 0 fields → AreNext count cs (e + from) from fields_mid
    next_rows count cs next = record {
      columns = subst (λ (ks : List ItemKind). AreColumns ks count cs) (sym turned.way.kinds) next.columns;
      next = later-later e from cs ∙ ap (later_records from) (next.next ∙ later-zero (columns_of fields) ∙ sym turned.way.columns);
    }

    pub turned_next : (k : ℕ) (fields_now : List Waiting) (chunks_now : Chunks) (now : Writing T) → AreGroups k (until - from) → Turns view (e + from) from k fields_mid chunks_mid mid fields_now chunks_now now → from < until → IsTurned (from + k) fields_now chunks_now now
    turned_next k fields_now chunks_now now are turns more =
        let sum : e + from + k ≡ e + (from + k) = omega arith in
        let few = are.1 in
        record {
          way = record {
            chunked = subst (λ m. IsChunked m fields_now chunks_now) sum turns.chunked;
            kinds = turns.kinds ∙ turned.way.kinds;
            columns = turns.columns ∙ turned.way.columns;
            records = turns.records ∙ turned.way.records;
            at_most = turns.at_most ∙ turned.way.at_most;
            state = turns.state;
            target = keeps_both (view out.target) (view mid.target) (view now.target) turned.way.target turns.target;
            held = turns.held ∙ turned.way.held;
            grows = omega (arith, turns.grows, turned.way.grows);
            way = λ before start count cs next there way.
                subst (λ m. IsOnWay before start m cs fields_now chunks_now now) sum
                (turns.way before start count cs (next_rows count cs next) (omega (arith, there)) (turned.way.way before start count cs next (omega (arith, there)) way));
          };
          order = omega (arith, few, turned.order);
          groups = ⊎_elim (λ (all : k ≡ until - from). inl (omega (arith, all, more))) (λ (eights : k % 8 ≡ 0). ⊎_elim (λ (over : from ≡ until). absurd (omega (arith, over, more))) (λ (whole : from % 8 ≡ 0). inr (omega (arith, eights, whole))) turned.groups) are.2;
        }

    pub turned_lost : (fault : WriteFault) (now : TargetView) → LosesRecords view mid (PassesAt (e + from) from (until - from) fields_mid chunks_mid mid) (HasText fields_mid) fault now → LosesRecords view out (PassesAt e 0 until fields chunks out) (HasText fields) fault now
    turned_lost fault now lost =
        let sum : e + from + (until - from) ≡ e + until = omega (arith, turned.order) in
        loses_behind view out mid (PassesAt (e + from) from (until - from) fields_mid chunks_mid mid) (PassesAt e 0 until fields chunks out) (HasText fields_mid) (HasText fields) fault now turned.way.target
        (λ past before start count cs next there way.
        subst (λ m. most_bytes < data_end start (kinds_of fields) chunks.records m cs) sum
        (subst (λ (ks : List ItemKind). most_bytes < data_end start ks chunks.records (e + from + (until - from)) cs) turned.way.kinds
        (subst (λ n. most_bytes < data_end start (kinds_of fields_mid) n (e + from + (until - from)) cs) turned.way.records
        (past before start count cs (next_rows count cs next) (omega (arith, there, sum)) (turned.way.way before start count cs next (omega (arith, there, turned.order)) way)))))
        (text-same fields fields_mid turned.way.kinds) lost
