-- The columns of a section's fields, opened one after another.
use Rattle.std.specs.Prelude.{◌≡◌, ℕ, zero, suc, ◌+◌, ◌-◌, ◌<◌, ◌≤◌, true, false, List, [], ◌∷◌, ◌++◌, length, drop, get_or, pos, is_some, Option, Some, None, IfSome, Result, Ok, Err, MatchResult}
use Rattle.std.specs.List.{AllByRecursion}
use Rattle.std.specs.Option.{option_or}
use Rattle.std.proofs.Common.{refl, sym, subst, ap, ◌∙◌, arith}
use Rattle.e57_base.proofs.CountLaws.{rose_before}
use Rattle.e57_base.specs.Source.{SourceView}
use Rattle.e57_base.proofs.Told.{told_map, told_both, told_here}
use Rattle.e57_base.specs.declared.fault.Fault.{Fault}
use Rattle.e57_base.specs.declared.fault.OpenFault.{OpenFault}
use Rattle.e57_base.specs.declared.fault.OpenFault.TheVariants.{Refused, Source, Memory}
use Rattle.e57_layout.specs.Values.{Value, whole, IsValidField, item_kind}
use Rattle.e57_layout.specs.declared.field.Field.{Field}
use Rattle.e57_layout.specs.declared.field.Fixed.{Fixed}
use Rattle.e57_layout.specs.declared.section.Section.{Section}
use Rattle.e57_nodes.specs.Items.{leaves_of}
use Rattle.e57_cloud.specs.Chunks.{Chunk, chunks, stream_of}
use Rattle.e57_cloud.specs.Cloud.{Leaf, items_fault, chunk_item, field_fault, fields_fault, IsBodySound}
use Rattle.e57_cloud.specs.PathItem.{constant_of, item_of, first_refusal}
use Rattle.e57_cloud.proofs.Laws.Refusals.{field-refusal}
use Rattle.e57_check.specs.Asking.{AsksWhere}
use Rattle.e57_check.proofs.AskingLaws.{asks_where_none, asks_where_on}
use Rattle.e57_column.specs.Column.{leaf_of, column_item, StandsIn}
use Rattle.e57_check.specs.Judging.{IsAt, AllAt, AllStand, columns_fault, IsNoRefusal, OpensColumns, GivesUp, OpensColumn, OpensNoColumn}
use Rattle.e57_column.specs.declared.state.State.{State}
use Rattle.e57_check.specs.declared.fields.Judging.{Judging}
use Rattle.e57_check.proofs.Rows.{columns-append, columns-one, columns-none, all-append}
use Rattle.e57_cloud.proofs.Laws.Items.{constant-found}
use Rattle.e57_base.proofs.Options.{option_or_assoc}

-- ---- fields by number

leaf_at : Field → Leaf
leaf_at field = record { node = field.node; kind = item_kind field.kind }

pub leaf-next : (fields : List Field) (f : ℕ) (d : Field) → f < length fields → drop f (leaves_of fields) ≡ (record { node = (get_or fields f d).node; kind = item_kind (get_or fields f d).kind }) ∷ drop (f + 1) (leaves_of fields)
leaf-next [] f d below = absurd (omega (arith, below))
leaf-next (x ∷ xs) zero d below = refl
leaf-next (x ∷ xs) (suc f) d below = let more : suc f + 1 ≡ suc (f + 1) = omega arith in rw more (leaf-next xs f d (omega (arith, below)))

pub leaf-here : (fields : List Field) (f : ℕ) (x : Field) → f < length fields → x ≡ get_or fields f x → drop f (leaves_of fields) ≡ (record { node = x.node; kind = item_kind x.kind }) ∷ drop (f + 1) (leaves_of fields)
leaf-here fields f x below is = subst (λ (y : Field). drop f (leaves_of fields) ≡ (record { node = y.node; kind = item_kind y.kind }) ∷ drop (f + 1) (leaves_of fields)) (sym is) (leaf-next fields f x below)

pub valid-at : (fields : List Field) (f : ℕ) (d : Field) → f < length fields → AllByRecursion IsValidField fields → IsValidField (get_or fields f d)
valid-at [] f d below all = absurd (omega (arith, below))
valid-at (x ∷ xs) zero d below all = all.0
valid-at (x ∷ xs) (suc f) d below all = valid-at xs f d (omega (arith, below)) all.1

leaves-end : (fields : List Field) (f : ℕ) → length fields ≤ f → drop f (leaves_of fields) ≡ []
leaves-end [] zero over = refl
leaves-end [] (suc f) over = refl
leaves-end (x ∷ xs) zero over = absurd (omega (arith, over))
leaves-end (x ∷ xs) (suc f) over = leaves-end xs f (omega (arith, over))

-- ---- a field whose items take no bits has no fault

value_or : Option Value → Value
value_or None = whole (pos 0)
value_or (Some v) = v

constant-items : (f : ℕ) (leaf : Leaf) (chunk : Chunk) (v : Value) (first k n : ℕ) → constant_of leaf.kind ≡ Some v → items_fault (chunk_item f leaf.kind chunk) leaf.node first k n ≡ None
unfolding items_fault
constant-items f leaf chunk v first k zero is = refl
constant-items f leaf chunk v first k (suc n) is = rw (constant-found leaf.kind v (stream_of f chunk.packets) k is, constant-items f leaf chunk v first (k + 1) n is) refl

constant-field : (f : ℕ) (leaf : Leaf) (parts : List Chunk) (v : Value) → constant_of leaf.kind ≡ Some v → field_fault f leaf parts ≡ None
unfolding field_fault
constant-field f leaf [] v is = refl
constant-field f leaf (chunk ∷ parts) v is = rw (constant-items f leaf chunk v chunk.first 0 (chunk.until - chunk.first) is, constant-field f leaf parts v is) refl

fields-next : (f : ℕ) (leaf : Leaf) (leaves : List Leaf) (parts : List Chunk) → fields_fault f (leaf ∷ leaves) parts ≡ option_or (field_fault f leaf parts) (fields_fault (f + 1) leaves parts)
unfolding fields_fault
fields-next f leaf leaves parts = refl

fields-none : (f : ℕ) (parts : List Chunk) → fields_fault f [] parts ≡ None
unfolding fields_fault
fields-none f parts = refl

-- ---- field after field

-- the first fault of the fields, by the columns that were opened and the fields that are left
pub OpensTold : List ℕ → Section → Option Fixed → List Leaf → ℕ → List State → Type 0
OpensTold file s fixed leaves f cs = fields_fault 0 leaves (chunks file s fixed) ≡ option_or (columns_fault file cs 0 s.count) (fields_fault f (drop f leaves) (chunks file s fixed))

pub record OpensSoFar (count : ℕ) (old : SourceView) (s : Section) (fixed : Option Fixed) (leaves : List Leaf) (f : ℕ) (cs : List State) (new : SourceView) : Type 0 where
  pub source : AsksWhere (λ file. Unit {0}) count old new
  pub all : AllAt s 0 cs
  pub stand : IfSome old.held (λ file. AllStand file cs)
  pub judged : IfSome old.held (λ file. IsBodySound file s fixed → OpensTold file s fixed leaves f cs)

pub opens-begin : (count : ℕ) (view : SourceView) (s : Section) (fixed : Option Fixed) (leaves : List Leaf) → OpensSoFar count view s fixed leaves 0 [] view
unfolding OpensTold
opens-begin count view s fixed leaves = record { source = asks_where_none (λ file. Unit {0}) count view; all = tt; stand = stand view.held; judged = judged view.held }
  where
    stand : (held : Option (List ℕ)) → IfSome held (λ file. AllStand file [])
    stand None = tt
    stand (Some file) = tt

    judged : (held : Option (List ℕ)) → IfSome held (λ file. IsBodySound file s fixed → fields_fault 0 leaves (chunks file s fixed) ≡ option_or (columns_fault file [] 0 s.count) (fields_fault 0 (drop 0 leaves) (chunks file s fixed)))
    judged None = tt
    judged (Some file) = λ sound. ap (λ (o : Option Fault). option_or o (fields_fault 0 leaves (chunks file s fixed))) (sym (columns-none file 0 s.count))

is-some : (o : Option Value) → is_some o ≡ true → (v : Value) × (o ≡ Some v)
is-some None is = absurd cc
is-some (Some v) is = (v, refl)

-- a constant field
pub opens-constant : (count : ℕ) (old new : SourceView) (s : Section) (fixed : Option Fixed) (leaves : List Leaf) (f : ℕ) (leaf : Leaf) (cs : List State) → drop f leaves ≡ leaf ∷ drop (f + 1) leaves → is_some (constant_of leaf.kind) ≡ true
    → OpensSoFar count old s fixed leaves f cs new → OpensSoFar count old s fixed leaves (f + 1) cs new
unfolding OpensTold
opens-constant count old new s fixed leaves f leaf cs next constant opens =
    let v = is-some (constant_of leaf.kind) constant in
    record {
      source = opens.source;
      all = opens.all;
      stand = opens.stand;
      judged = told_map (λ file. IsBodySound file s fixed → OpensTold file s fixed leaves f cs) (λ file. IsBodySound file s fixed → OpensTold file s fixed leaves (f + 1) cs) old.held
          (λ file judged sound.
          judged sound
          ∙ ap (λ (rest : List Leaf). option_or (columns_fault file cs 0 s.count) (fields_fault f rest (chunks file s fixed))) next
          ∙ ap (option_or (columns_fault file cs 0 s.count))
          (fields-next f leaf (drop (f + 1) leaves) (chunks file s fixed)
          ∙ ap (λ (o : Option Fault). option_or o (fields_fault (f + 1) (drop (f + 1) leaves) (chunks file s fixed))) (constant-field f leaf (chunks file s fixed) v.0 v.1))) opens.judged;
    }

item-as : (file : List ℕ) (s : Section) (fixed : Option Fixed) (f : ℕ) (leaf : Leaf) (c : State) (a n : ℕ) → c.stream.section ≡ s → c.stream.fixed ≡ fixed → c.stream.field ≡ f → leaf_of c ≡ leaf → first_refusal (column_item file c) a n ≡ first_refusal (item_of file s fixed f leaf) a n
item-as file s fixed f leaf c a n section fixed_is field_is leaf_is =
    ap (λ (x : Section). first_refusal (item_of file x c.stream.fixed c.stream.field (leaf_of c)) a n) section
    ∙ ap (λ (x : Option Fixed). first_refusal (item_of file s x c.stream.field (leaf_of c)) a n) fixed_is
    ∙ ap (λ (x : ℕ). first_refusal (item_of file s fixed x (leaf_of c)) a n) field_is
    ∙ ap (λ (x : Leaf). first_refusal (item_of file s fixed f x) a n) leaf_is

-- a column more
pub opens-more : (count : ℕ) (old mid new : SourceView) (s : Section) (fixed : Option Fixed) (leaves : List Leaf) (f : ℕ) (leaf : Leaf) (cs : List State) (c : State) → drop f leaves ≡ leaf ∷ drop (f + 1) leaves
    → OpensSoFar count old s fixed leaves f cs mid → OpensColumn count mid s fixed f leaf c new → OpensSoFar count old s fixed leaves (f + 1) (cs ++ c ∷ []) new
unfolding OpensTold
opens-more count old mid new s fixed leaves f leaf cs c next opens column = record {
  source = asks_where_on (λ file. Unit {0}) count old mid new opens.source column.source;
  all = all-append (IsAt s 0) cs (c ∷ []) opens.all (column.is_at, tt);
  stand = told_both (λ file. AllStand file cs) (λ file. StandsIn file c) (λ file. AllStand file (cs ++ c ∷ [])) old.held
      (λ file stand one. all-append (StandsIn file) cs (c ∷ []) stand (one, tt)) opens.stand
      (told_here (λ file. StandsIn file c) mid.held old.held (sym opens.source.asks.same.held) column.stands);
  judged = told_map (λ file. IsBodySound file s fixed → OpensTold file s fixed leaves f cs) (λ file. IsBodySound file s fixed → OpensTold file s fixed leaves (f + 1) (cs ++ c ∷ [])) old.held
      (λ file judged sound.
      let rest = fields_fault (f + 1) (drop (f + 1) leaves) (chunks file s fixed) in
      let own : field_fault f leaf (chunks file s fixed) ≡ columns_fault file (c ∷ []) 0 s.count =
      field-refusal file s fixed f leaf sound ∙ sym (item-as file s fixed f leaf c 0 s.count column.is_at.section column.fixed_is column.field_is column.leaf_is) ∙ sym (columns-one file c 0 s.count) in
      judged sound
      ∙ ap (λ (rest : List Leaf). option_or (columns_fault file cs 0 s.count) (fields_fault f rest (chunks file s fixed))) next
      ∙ ap (option_or (columns_fault file cs 0 s.count)) (fields-next f leaf (drop (f + 1) leaves) (chunks file s fixed) ∙ ap (λ (o : Option Fault). option_or o rest) own)
      ∙ sym (option_or_assoc (columns_fault file cs 0 s.count) (columns_fault file (c ∷ []) 0 s.count) rest)
      ∙ ap (λ (o : Option Fault). option_or o rest) (sym (columns-append file cs (c ∷ []) 0 s.count))) opens.judged;
}

first-refused : (look : ℕ → Result Value Fault) (n : ℕ) (found : Fault) → 0 < n → look 0 ≡ Err found → first_refusal look 0 n ≡ Some found
unfolding first_refusal
first-refused look zero found some is = absurd (omega (arith, some))
first-refused look (suc n) found some is = rw is refl

-- the next field has a fault at its first item
opens-refused : (count : ℕ) (old mid new : SourceView) (s : Section) (fixed : Option Fixed) (leaves : List Leaf) (f : ℕ) (leaf : Leaf) (cs : List State) (found : Fault) → drop f leaves ≡ leaf ∷ drop (f + 1) leaves
    → OpensSoFar count old s fixed leaves f cs mid → OpensNoColumn count mid s fixed f leaf (Refused found) new → OpensColumns count old s fixed leaves cs (Some found) new
unfolding OpensTold
opens-refused count old mid new s fixed leaves f leaf cs found next opens lost = record {
  source = asks_where_on (λ file. Unit {0}) count old mid new opens.source lost.source;
  all = opens.all;
  stand = opens.stand;
  judged = told_both (λ file. IsBodySound file s fixed → OpensTold file s fixed leaves f cs) (λ file. item_of file s fixed f leaf 0 ≡ Err found) (λ file. IsBodySound file s fixed → fields_fault 0 leaves (chunks file s fixed) ≡ option_or (columns_fault file cs 0 (s.count - 0)) (Some found)) old.held
      (λ file judged is sound.
      let all : s.count ≡ s.count - 0 = omega arith in
      let own : field_fault f leaf (chunks file s fixed) ≡ Some found = field-refusal file s fixed f leaf sound ∙ first-refused (item_of file s fixed f leaf) s.count found sound.some is in
      judged sound
      ∙ ap (λ (rest : List Leaf). option_or (columns_fault file cs 0 s.count) (fields_fault f rest (chunks file s fixed))) next
      ∙ ap (option_or (columns_fault file cs 0 s.count)) (fields-next f leaf (drop (f + 1) leaves) (chunks file s fixed) ∙ ap (λ (o : Option Fault). option_or o (fields_fault (f + 1) (drop (f + 1) leaves) (chunks file s fixed))) own)
      ∙ ap (λ (n : ℕ). option_or (columns_fault file cs 0 n) (Some found)) all) opens.judged
      (told_here (λ file. item_of file s fixed f leaf 0 ≡ Err found) mid.held old.held (sym opens.source.asks.same.held) lost.cause);
}

-- a column that wasn't opened, by why
pub opens-stopped : (count : ℕ) (old mid new : SourceView) (s : Section) (fixed : Option Fixed) (leaves : List Leaf) (f : ℕ) (leaf : Leaf) (cs : List State) (fault : OpenFault) (result : Result Judging OpenFault) → drop f leaves ≡ leaf ∷ drop (f + 1) leaves
    → OpensSoFar count old s fixed leaves f cs mid → OpensNoColumn count mid s fixed f leaf fault new
    → MatchResult result (λ judging. (judging.columns.items ≡ cs) × (IfSome judging.found (λ found. fault ≡ Refused found)) × (is_some judging.found ≡ true)) (λ given. (given ≡ fault) × IsNoRefusal fault)
    → MatchResult result (λ judging. OpensColumns count old s fixed leaves judging.columns.items judging.found new) (λ found. GivesUp count old found new)
opens-stopped count old mid new s fixed leaves f leaf cs fault (Ok judging) next opens lost is = by_found judging.found refl is.1 is.2
  where
    by_found : (found : Option Fault) → judging.found ≡ found → IfSome judging.found (λ found. fault ≡ Refused found) → is_some judging.found ≡ true → OpensColumns count old s fixed leaves judging.columns.items judging.found new
    by_found None same has some = absurd (no-some (sym (ap (λ (o : Option Fault). is_some o) same) ∙ some))
      where
        no-some : false ≡ true → ⊥
        no-some e = cc
    by_found (Some x) same has some =
        let refused : fault ≡ Refused x = rw same at has in
        subst (λ (o : Option Fault). OpensColumns count old s fixed leaves judging.columns.items o new) (sym same)
        (subst (λ (xs : List State). OpensColumns count old s fixed leaves xs (Some x) new) (sym is.0)
        (opens-refused count old mid new s fixed leaves f leaf cs x next opens (subst (λ (y : OpenFault). OpensNoColumn count mid s fixed f leaf y new) refused lost)))
opens-stopped count old mid new s fixed leaves f leaf cs (Refused found) (Err given) next opens lost is = absurd is.1
opens-stopped count old mid new s fixed leaves f leaf cs Source (Err given) next opens lost is = rw is.0 (record {
  source = asks_where_on (λ file. Unit {0}) count old mid new opens.source lost.source;
  cause = rose_before old.faults mid.faults new.faults opens.source.asks.faults lost.cause;
})
opens-stopped count old mid new s fixed leaves f leaf cs Memory (Err given) next opens lost is = rw is.0 (record { source = asks_where_on (λ file. Unit {0}) count old mid new opens.source lost.source; cause = tt })

-- memory ran out
pub opens-no_memory : (count : ℕ) (old mid new : SourceView) (s : Section) (fixed : Option Fixed) (leaves : List Leaf) (f : ℕ) (leaf : Leaf) (cs : List State) (c : State) → OpensSoFar count old s fixed leaves f cs mid → OpensColumn count mid s fixed f leaf c new → GivesUp count old Memory new
opens-no_memory count old mid new s fixed leaves f leaf cs c opens column = record { source = asks_where_on (λ file. Unit {0}) count old mid new opens.source column.source; cause = tt }

-- all were opened
pub opens-end : (count : ℕ) (old new : SourceView) (s : Section) (fixed : Option Fixed) (fields : List Field) (f : ℕ) (cs : List State) → length fields ≤ f → OpensSoFar count old s fixed (leaves_of fields) f cs new → OpensColumns count old s fixed (leaves_of fields) cs None new
unfolding OpensTold
opens-end count old new s fixed fields f cs over opens = record {
  source = opens.source;
  all = opens.all;
  stand = opens.stand;
  judged = told_map (λ file. IsBodySound file s fixed → OpensTold file s fixed (leaves_of fields) f cs) (λ file. IsBodySound file s fixed → fields_fault 0 (leaves_of fields) (chunks file s fixed) ≡ option_or (columns_fault file cs 0 (s.count - 0)) None) old.held
      (λ file judged sound.
      let all : s.count ≡ s.count - 0 = omega arith in
      judged sound
      ∙ ap (λ (rest : List Leaf). option_or (columns_fault file cs 0 s.count) (fields_fault f rest (chunks file s fixed))) (leaves-end fields f over)
      ∙ ap (option_or (columns_fault file cs 0 s.count)) (fields-none f (chunks file s fixed))
      ∙ ap (λ (n : ℕ). option_or (columns_fault file cs 0 n) None) all) opens.judged;
}
