-- One item more that is copied behind others, or one that is not.
use Rattle.std.proofs.Common.{◌≡◌, ℕ, suc, ◌+◌, ◌%◌, ◌<◌, List, [], ◌∷◌, ◌++◌, length, None, refl, sym, ap, subst, ◌∙◌}
use Rattle.e57_base.proofs.CountLaws.{rose_before}
use Rattle.e57_base.proofs.Told.{told_map, told_both, told_here, told_all}
use Rattle.e57_base.specs.Source.{SourceView}
use Rattle.e57_base.specs.Target.{TargetView}
use Rattle.e57_base.specs.declared.fault.AskFault.TheVariants as of_ask
use Rattle.e57_base.specs.declared.fault.RunFault.{RunFault}
use Rattle.e57_base.specs.declared.fault.RunFault.TheVariants.{Refused, Source, Out, Memory, Ask}
use Rattle.e57_page_out.specs.Writing.{Writing, IsBeingWritten, most_bytes}
use Rattle.e57_page_out.proofs.Sequences.{leaves_later, leaves_still}
use Rattle.e57_nodes.specs.Items.{StatedItem}
use Rattle.e57_verdict.specs.Things.{Body, Thing, body_of, thing_fault}
use Rattle.e57_verdict.specs.Verdict.{all_pages_fault}
use Rattle.e57_plain.specs.Valid.{IsBody, AreBodies}
use Rattle.e57_plain.specs.Written.{body_section}
use Rattle.e57_check.proofs.AskingLaws.{asks_where_none, asks_where_on}
use Rattle.e57_copy.specs.Items.{CopiesItem, LosesItem, IsItemCause}
use Rattle.e57_copy.specs.Several.{bodies_in, AreSound, PassesFirst}
use Rattle.e57_copy.proofs.Lists.{sound_parts, bodies_more, body_there, bodies_count, map_append}
use Rattle.e57_copy.proofs.Several.{passes-more, puts-more, puts-none}
use Rattle.e57_repack.specs.Copying.{CopiesItems, IsItemsCause, LosesItems}

-- ---- where they begin

-- no item was copied
pub copies-none : {T : Type 0} (view : T → TargetView) (n count : ℕ) (source : SourceView) (out : Writing T) → IsBeingWritten view out → CopiesItems view n [] [] count source source out [] out
copies-none view n count source out state = record {
  source = asks_where_none (λ file. Unit {0}) count source;
  bodies = [];
  are_bodies = tt;
  of_file = told_all (λ file. AreSound [] file → ◌≡◌ {A = List Body} [] []) source.held (λ file sound. refl);
  puts = puts-none view n out state;
}

-- ---- one item more

map-one : (file : List ℕ) (things : List Thing) (thing : Thing) (bodies : List Body) (body : Body) → bodies ≡ bodies_in file things → body ≡ body_of file thing
    → bodies ++ body ∷ [] ≡ bodies_in file (things ++ thing ∷ [])
map-one file things thing bodies body first next =
    ap (λ (bs : List Body). bs ++ body ∷ []) first ∙ ap (λ (b : Body). bodies_in file things ++ b ∷ []) next ∙ sym (map_append (body_of file) things (thing ∷ []))

pub copies-more : {T : Type 0} (view : T → TargetView) (n count : ℕ) (items : List StatedItem) (things : List Thing) (item : StatedItem) (thing : Thing) (old mid new : SourceView) (a b c : Writing T) (offsets : List ℕ) (offset : ℕ)
    → a.size % 1020 ≡ 0 → CopiesItems view n items things count old mid a offsets b → CopiesItem view n item thing count mid new b offset c
    → CopiesItems view n (items ++ item ∷ []) (things ++ thing ∷ []) count old new a (offsets ++ offset ∷ []) c
copies-more view n count items things item thing old mid new a b c offsets offset whole first next =
    record {
      source = asks_where_on (λ file. Unit {0}) count old mid new first.source next.source;
      bodies = first.bodies ++ next.body ∷ [];
      are_bodies = bodies_more items first.bodies item next.body first.are_bodies next.is_body;
      of_file =
          told_both (λ file. AreSound things file → first.bodies ≡ bodies_in file things) (λ file. thing_fault file thing ≡ None → next.body ≡ body_of file thing)
          (λ file. AreSound (things ++ thing ∷ []) file → first.bodies ++ next.body ∷ [] ≡ bodies_in file (things ++ thing ∷ [])) old.held
          (λ file one two sound.
          let parts = sound_parts file things thing [] sound in
          map-one file things thing first.bodies next.body (one parts.0) (two parts.1))
          first.of_file
          (told_here (λ file. thing_fault file thing ≡ None → next.body ≡ body_of file thing) mid.held old.held (sym first.source.asks.same.held) next.of_file);
      puts = puts-more view n items first.bodies item next.body a b c offsets offset whole (bodies_count items first.bodies first.are_bodies) first.puts next.puts;
    }

-- ---- an item that is not copied

-- the bodies of all
all-bodies : (file : List ℕ) (things : List Thing) (thing : Thing) (rest : List Thing) → bodies_in file (things ++ thing ∷ rest) ≡ bodies_in file things ++ body_of file thing ∷ bodies_in file rest
all-bodies file things thing rest = map_append (body_of file) things (thing ∷ rest)

length-map : (file : List ℕ) (things : List Thing) → length (bodies_in file things) ≡ length things
length-map file [] = refl
length-map file (t ∷ ts) = ap suc (length-map file ts)

-- a body among the bodies of all
there : (file : List ℕ) (items : List StatedItem) (things : List Thing) (item : StatedItem) (thing : Thing) (after : List StatedItem) (rest : List Thing) → length items ≡ length things
    → AreBodies (items ++ item ∷ after) (bodies_in file (things ++ thing ∷ rest)) → IsBody item (body_of file thing)
there file items things item thing after rest same are =
    body_there items (bodies_in file things) item (body_of file thing) after (bodies_in file rest) (same ∙ sym (length-map file things))
    (subst (λ (bs : List Body). AreBodies (items ++ item ∷ after) bs) (all-bodies file things thing rest) are)

lost-cause : {T : Type 0} (view : T → TargetView) (n count : ℕ) (items : List StatedItem) (things : List Thing) (item : StatedItem) (thing : Thing) (after : List StatedItem) (rest : List Thing) (old mid new : SourceView) (a b c : Writing T) (offsets : List ℕ) (fault : RunFault)
    → a.size % 1020 ≡ 0 → length items ≡ length things → CopiesItems view n items things count old mid a offsets b → IsItemCause view n item thing mid new b fault c
    → IsItemsCause view n (items ++ item ∷ after) (things ++ thing ∷ rest) old new a fault c
lost-cause view n count items things item thing after rest old mid new a b c offsets (Refused found) whole same first cause =
    told_map (λ file. all_pages_fault file ≡ None → thing_fault file thing ≡ None → IsBody item (body_of file thing) → ⊥)
    (λ file. AreSound (things ++ thing ∷ rest) file → AreBodies (items ++ item ∷ after) (bodies_in file (things ++ thing ∷ rest)) → ⊥) old.held
    (λ file never sound are. never sound.0 (sound_parts file things thing rest sound).1 (there file items things item thing after rest same are))
    (told_here (λ file. all_pages_fault file ≡ None → thing_fault file thing ≡ None → IsBody item (body_of file thing) → ⊥) mid.held old.held (sym first.source.asks.same.held) cause)
lost-cause view n count items things item thing after rest old mid new a b c offsets Source whole same first cause = rose_before old.faults mid.faults new.faults first.source.asks.faults cause
lost-cause view n count items things item thing after rest old mid new a b c offsets Out whole same first cause =
    rose_before (view a.target).faults (view b.target).faults (view c.target).faults first.puts.wrote.target.faults cause
lost-cause view n count items things item thing after rest old mid new a b c offsets Memory whole same first cause = tt
lost-cause view n count items things item thing after rest old mid new a b c offsets (Ask of_ask.Large) whole same first cause =
    told_both (λ file. AreSound things file → first.bodies ≡ bodies_in file things) (λ file. thing_fault file thing ≡ None → IsBody item (body_of file thing) → most_bytes < b.size + length (body_section n b.size item (body_of file thing)))
    (λ file. AreSound (things ++ thing ∷ rest) file → AreBodies (items ++ item ∷ after) (bodies_in file (things ++ thing ∷ rest)) → PassesFirst n a.size (items ++ item ∷ after) (bodies_in file (things ++ thing ∷ rest))) old.held
    (λ file is past sound are.
    let parts = sound_parts file things thing rest sound in
    subst (λ (bodies : List Body). PassesFirst n a.size (items ++ item ∷ after) bodies)
    (ap (λ (bodies : List Body). bodies ++ body_of file thing ∷ bodies_in file rest) (is parts.0) ∙ sym (all-bodies file things thing rest))
    (passes-more view n items first.bodies item (body_of file thing) after (bodies_in file rest) a b offsets whole (bodies_count items first.bodies first.are_bodies) first.puts
    (past parts.1 (there file items things item thing after rest same are))))
    first.of_file
    (told_here (λ file. thing_fault file thing ≡ None → IsBody item (body_of file thing) → most_bytes < b.size + length (body_section n b.size item (body_of file thing))) mid.held old.held (sym first.source.asks.same.held) cause)
lost-cause view n count items things item thing after rest old mid new a b c offsets (Ask why) whole same first cause = absurd cause

-- one item that is not copied, behind the first ones: then not all are
pub copies-lost : {T : Type 0} (view : T → TargetView) (n count : ℕ) (items : List StatedItem) (things : List Thing) (item : StatedItem) (thing : Thing) (after : List StatedItem) (rest : List Thing) (old mid new : SourceView) (a b c : Writing T) (offsets : List ℕ) (fault : RunFault)
    → a.size % 1020 ≡ 0 → length items ≡ length things → CopiesItems view n items things count old mid a offsets b → LosesItem view n item thing count mid new b fault c
    → LosesItems view n (items ++ item ∷ after) (things ++ thing ∷ rest) count old new a fault c
copies-lost view n count items things item thing after rest old mid new a b c offsets fault whole same first lost =
    record {
      source = asks_where_on (λ file. Unit {0}) count old mid new first.source lost.source;
      left = leaves_later view a b (view c.target) first.puts.wrote.target lost.left;
      cause = lost-cause view n count items things item thing after rest old mid new a b c offsets fault whole same first lost.cause;
    }

-- no memory for the offset of an item that was copied
pub copies-unnoted : {T : Type 0} (view : T → TargetView) (n count : ℕ) (items all : List StatedItem) (things whole : List Thing) (old new : SourceView) (a b : Writing T) (offsets : List ℕ)
    → CopiesItems view n items things count old new a offsets b → LosesItems view n all whole count old new a Memory b
copies-unnoted view n count items all things whole old new a b offsets done =
    record {
      source = done.source;
      left = leaves_later view a b (view b.target) done.puts.wrote.target (leaves_still view b done.puts.wrote.state);
      cause = tt;
    }
