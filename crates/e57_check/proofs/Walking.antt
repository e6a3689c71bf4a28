-- The clouds and blobs of a tree, one after another.
use Rattle.std.proofs.Common.{◌≡◌, ℕ, suc, ◌+◌, ◌*◌, ◌^◌, ◌<◌, ◌≤◌, List, [], ◌∷◌, length, drop, get_or, Option, Some, None, slice_get, IfSome, refl, sym, ap, subst, ◌∙◌, arith}
use Rattle.std.specs.List.{AllByRecursion, filter_map, cons_option}
use Rattle.std.specs.Option.{option_or}
use Rattle.std.proofs.lemmas.Option.{get_or_from_slice_get, slice_get-get_or}
use Rattle.std.proofs.Math.ListN.{drop_of_length-le}
use Rattle.e57_base.specs.Source.{SourceView}
use Rattle.e57_base.proofs.Told.{told_map, told_both, told_here}
use Rattle.e57_base.specs.declared.fault.Fault.{Fault}
use Rattle.e57_base.specs.declared.fault.OpenFault.{OpenFault}
use Rattle.e57_elements.specs.Tree.{Element, preorder}
use Rattle.e57_elements.specs.Lawful.{AreNodes}
use Rattle.e57_elements.specs.declared.tree.RawNode.{RawNode}
use Rattle.e57_layout.specs.declared.field.Field.{Field}
use Rattle.e57_nodes.specs.Shape.{shape_of, node_count}
use Rattle.e57_nodes.specs.Typed.{typed_fault}
use Rattle.e57_nodes.specs.Places.{places_in, stated_place}
use Rattle.e57_nodes.specs.Items.{StatedItem, stated_cloud, stated_blob, stated_items, leaves_of}
use Rattle.e57_nodes.proofs.Laws.Sound.{IsSoundItem, sound_items}
use Rattle.e57_nodes.proofs.Laws.Stated.{length-stated_items}
use Rattle.e57_tree.specs.declared.items.Cloud.{Cloud}
use Rattle.e57_tree.specs.declared.items.Blob.{Blob}
use Rattle.e57_tree.specs.declared.items.Item.{Item}
use Rattle.e57_tree.specs.declared.items.Item.TheVariants as item
use Rattle.e57_tree.specs.Held.{clouds_among, blobs_among, items_among, fields_among, clouds_of, blobs_of, items_of, cloud_fields, no_cloud, no_blob, cloud_in, blob_in, fields_in}
use Rattle.e57_tree.proofs.Laws.Flat.{node_count-shape_of}
use Rattle.e57_verdict.specs.Things.{Thing, cloud_thing, blob_thing, thing_at, thing_fault, things_at, things_in as things_of, things_fault, cloud_count, blob_count, record_count}
use Rattle.e57_check.specs.Asking.{AsksWhere}
use Rattle.e57_check.proofs.AskingLaws.{asks_where_none, asks_where_on}
use Rattle.e57_check.specs.Clouds.{HasNone, Refuses, cloud_of}
use Rattle.e57_check.specs.Checking.{FitsItem, thing_in, JudgesThing, RefusesThing, JudgesThings, RefusesThings}
use Rattle.e57_check.specs.declared.summary.Summary.{Summary}
use Rattle.e57_check.proofs.Bodies.{refuses-later}
use Rattle.e57_base.proofs.Lists.{first_left, none_left, stands_at}

-- ---- how many there are

counts-few : (nodes : ℕ) (items : List StatedItem) → AllByRecursion (IsSoundItem nodes) items → (cloud_count items ≤ length items) × (blob_count items ≤ length items) × (record_count items ≤ length items * 2 ^ 40)
counts-few nodes [] sound = (omega arith, omega arith, omega arith)
counts-few nodes (stated_cloud n count fields ∷ items) sound =
    let rest = counts-few nodes items sound.1 in
    let few = sound.0.few_records in
    let a = rest.0 in
    let b = rest.1 in
    let r = rest.2 in
    (omega (arith, a), omega (arith, b), omega (arith, few, r))
counts-few nodes (stated_blob n size ∷ items) sound =
    let rest = counts-few nodes items sound.1 in
    let a = rest.0 in
    let b = rest.1 in
    let r = rest.2 in
    (omega (arith, a), omega (arith, b), omega (arith, r))

one-more : {Y : Type 0} (found : Option Y) (ys : List Y) (n : ℕ) → length ys ≤ n → length (cons_option found ys) ≤ suc n
one-more None ys n few = omega (arith, few)
one-more (Some y) ys n few = omega (arith, few)

filtered : {X Y : Type 0} (f : X → Option Y) (xs : List X) → length (filter_map f xs) ≤ length xs
filtered f [] = omega arith
filtered f (x ∷ xs) = one-more (f x) (filter_map f xs) (length xs) (filtered f xs)

-- there are no more clouds and blobs than nodes
few-items : (e : Element) → length (stated_items (shape_of e)) ≤ length (preorder e)
few-items e = let same = length-stated_items e in let few = filtered stated_place (preorder e) in omega (arith, same, few)

-- all of a tree are counted in 64 bits
pub record AreFew (items : List StatedItem) : Type 0 where
  pub clouds : cloud_count items ≤ 2 ^ 20
  pub blobs : blob_count items ≤ 2 ^ 20
  pub records : record_count items ≤ 2 ^ 60

are-few : (e : Element) → typed_fault (shape_of e) ≡ None → length (preorder e) ≤ 2 ^ 20 → AreFew (stated_items (shape_of e))
are-few e typed small =
    let counts = counts-few (node_count (shape_of e)) (stated_items (shape_of e)) (sound_items e typed) in
    let few = few-items e in
    let clouds = counts.0 in
    let blobs = counts.1 in
    let records = counts.2 in
    record { clouds = omega (arith, clouds, few, small); blobs = omega (arith, blobs, few, small); records = omega (arith, records, few, small) }

-- ---- the walk

-- What was judged are the first i items of the tree. These are left, with their places, and so many clouds and blobs stand
-- before.
pub record Left (count : ℕ) (old : SourceView) (e : Element) (i : ℕ) (summary : Summary) (new : SourceView) (rest : List StatedItem) (places : List ℕ) (clouds blobs : ℕ) : Type 0 where
  pub items_left : drop i (items_of e) ≡ items_among clouds blobs rest
  pub clouds_left : drop clouds (clouds_of e) ≡ clouds_among rest places
  pub blobs_left : drop blobs (blobs_of e) ≡ blobs_among rest places
  pub fields_left : drop clouds (cloud_fields e) ≡ fields_among rest
  pub as_many : length places ≡ length rest
  pub sound : AllByRecursion (IsSoundItem (length (preorder e))) rest
  pub few : AreFew (stated_items (shape_of e))
  pub source : AsksWhere (λ file. Unit {0}) count old new
  pub known : IfSome old.held (λ file. things_fault file (things_of e) ≡ things_fault file (things_at rest places))
  pub clouds_sum : summary.clouds + cloud_count rest ≡ cloud_count (stated_items (shape_of e))
  pub blobs_sum : summary.blobs + blob_count rest ≡ blob_count (stated_items (shape_of e))
  pub records_sum : summary.records + record_count rest ≡ record_count (stated_items (shape_of e))

pub record Walked (count : ℕ) (old : SourceView) (e : Element) (i : ℕ) (summary : Summary) (new : SourceView) : Type 0 where
  pub rest : List StatedItem
  pub places : List ℕ
  pub clouds : ℕ
  pub blobs : ℕ
  pub left : Left count old e i summary new rest places clouds blobs

-- item i fits, and what judging it answers goes on
pub record NextItem (count : ℕ) (old : SourceView) (e : Element) (i : ℕ) (summary : Summary) (x : Item) (mid : SourceView) : Type 0 where
  pub fits : FitsItem e x summary
  pub goes_on : (next : Summary) (new : SourceView) → JudgesThing count mid e x summary next new → Walked count old e (i + 1) next new
  pub refuses : (found : OpenFault) (new : SourceView) → RefusesThing count mid e x found new → RefusesThings count old e found new

-- the things that are left, the first of them judged
first-none : (count : ℕ) (old mid new : SourceView) (e : Element) (thing own : Thing) (things : List Thing) → own ≡ thing → IfSome old.held (λ file. things_fault file (things_of e) ≡ things_fault file (thing ∷ things)) → mid.held ≡ old.held → HasNone (λ file. thing_fault file own) count mid new
    → IfSome old.held (λ file. things_fault file (things_of e) ≡ things_fault file things)
first-none count old mid new e thing own things same known held none =
    told_both (λ file. things_fault file (things_of e) ≡ things_fault file (thing ∷ things)) (λ file. thing_fault file own ≡ None) (λ file. things_fault file (things_of e) ≡ things_fault file things) old.held
    (λ file is sound. is ∙ ap (λ (o : Option Fault). option_or o (things_fault file things)) (ap (thing_fault file) (sym same) ∙ sound)) known
    (told_here (λ file. thing_fault file own ≡ None) mid.held old.held (sym held) none.sound)

first-refused : (count : ℕ) (old mid new : SourceView) (e : Element) (thing own : Thing) (things : List Thing) (found : OpenFault) → own ≡ thing → AsksWhere (λ file. Unit {0}) count old mid → IfSome old.held (λ file. things_fault file (things_of e) ≡ things_fault file (thing ∷ things)) → Refuses (λ file. thing_fault file own) count mid found new
    → RefusesThings count old e found new
first-refused count old mid new e thing own things found same asks known lost =
    refuses-later (λ file. thing_fault file own) (λ file. things_fault file (things_of e)) count old mid new found asks
    (told_map (λ file. things_fault file (things_of e) ≡ things_fault file (thing ∷ things)) (λ file. (f : Fault) → thing_fault file own ≡ Some f → things_fault file (things_of e) ≡ Some f) old.held
    (λ file is f has. is ∙ ap (λ (o : Option Fault). option_or o (things_fault file things)) (ap (thing_fault file) (sym same) ∙ has)) known) lost

cloud-next : (count : ℕ) (old : SourceView) (e : Element) (i : ℕ) (summary : Summary) (mid : SourceView) (n records : ℕ) (fields : List Field) (rest : List StatedItem) (place : ℕ) (places : List ℕ) (c b : ℕ)
    → Left count old e i summary mid (stated_cloud n records fields ∷ rest) (place ∷ places) c b → NextItem count old e i summary (item.Cloud c) mid
cloud-next count old e i summary mid n records fields rest place places c b left =
    let cloud : Cloud = record { node = n; place = place; count = records } in
    let here = stands_at (clouds_of e) c cloud (clouds_among rest places) left.clouds_left in
    let row = stands_at (cloud_fields e) c fields (fields_among rest) left.fields_left in
    let is : cloud_in e c ≡ cloud = get_or_from_slice_get (clouds_of e) c cloud no_cloud here.got in
    let of : fields_in e c ≡ fields = get_or_from_slice_get (cloud_fields e) c fields [] row.got in
    let same : thing_in e (item.Cloud c) ≡ thing_at (stated_cloud n records fields) place =
    ap (λ (x : Cloud). cloud_thing (cloud_of x (leaves_of (fields_in e c)))) is ∙ ap (λ (fs : List Field). cloud_thing (cloud_of cloud (leaves_of fs))) of in
    let counted : (cloud_in e c).count ≡ records = ap (λ (x : Cloud). x.count) is in
    let most = left.sound.0.few_records in
    let clouds = left.clouds_sum in
    let all_clouds = left.few.clouds in
    let sum = left.records_sum in
    let all_records = left.few.records in
    record {
      fits = (record { there = here.there; few = omega (arith, counted, most) }, omega (arith, clouds, all_clouds), omega (arith, sum, all_records, counted));
      goes_on = λ next new judged.
          let first : next.clouds ≡ summary.clouds + 1 = ap (λ (x : Summary). x.clouds) judged.counted in
          let second : next.blobs ≡ summary.blobs = ap (λ (x : Summary). x.blobs) judged.counted in
          let third : next.records ≡ summary.records + (cloud_in e c).count = ap (λ (x : Summary). x.records) judged.counted in
          let blobs = left.blobs_sum in
          record {
            rest = rest;
            places = places;
            clouds = c + 1;
            blobs = b;
            left = record {
              items_left = (stands_at (items_of e) i (item.Cloud c) (items_among (c + 1) b rest) left.items_left).after;
              clouds_left = here.after;
              blobs_left = left.blobs_left;
              fields_left = row.after;
              as_many = let many = left.as_many in omega (arith, many);
              sound = left.sound.1;
              few = left.few;
              source = asks_where_on (λ file. Unit {0}) count old mid new left.source judged.none.source;
              known = first-none count old mid new e (thing_at (stated_cloud n records fields) place) (thing_in e (item.Cloud c)) (things_at rest places) same left.known left.source.asks.same.held judged.none;
              clouds_sum = omega (arith, first, clouds);
              blobs_sum = omega (arith, second, blobs);
              records_sum = omega (arith, third, counted, sum);
            };
          };
      refuses = λ found new lost. first-refused count old mid new e (thing_at (stated_cloud n records fields) place) (thing_in e (item.Cloud c)) (things_at rest places) found same left.source left.known lost;
    }

blob-next : (count : ℕ) (old : SourceView) (e : Element) (i : ℕ) (summary : Summary) (mid : SourceView) (n size : ℕ) (rest : List StatedItem) (place : ℕ) (places : List ℕ) (c b : ℕ)
    → Left count old e i summary mid (stated_blob n size ∷ rest) (place ∷ places) c b → NextItem count old e i summary (item.Blob b) mid
blob-next count old e i summary mid n size rest place places c b left =
    let blob : Blob = record { node = n; place = place; length = size } in
    let here = stands_at (blobs_of e) b blob (blobs_among rest places) left.blobs_left in
    let is : blob_in e b ≡ blob = get_or_from_slice_get (blobs_of e) b blob no_blob here.got in
    let same : thing_in e (item.Blob b) ≡ thing_at (stated_blob n size) place = ap (λ (x : Blob). blob_thing (record { node = x.node; offset = x.place; length = x.length })) is in
    let blobs = left.blobs_sum in
    let all_blobs = left.few.blobs in
    record {
      fits = (here.there, omega (arith, blobs, all_blobs));
      goes_on = λ next new judged.
          let first : next.clouds ≡ summary.clouds = ap (λ (x : Summary). x.clouds) judged.counted in
          let second : next.blobs ≡ summary.blobs + 1 = ap (λ (x : Summary). x.blobs) judged.counted in
          let third : next.records ≡ summary.records = ap (λ (x : Summary). x.records) judged.counted in
          let clouds = left.clouds_sum in
          let records = left.records_sum in
          record {
            rest = rest;
            places = places;
            clouds = c;
            blobs = b + 1;
            left = record {
              items_left = (stands_at (items_of e) i (item.Blob b) (items_among c (b + 1) rest) left.items_left).after;
              clouds_left = left.clouds_left;
              blobs_left = here.after;
              fields_left = left.fields_left;
              as_many = let many = left.as_many in omega (arith, many);
              sound = left.sound.1;
              few = left.few;
              source = asks_where_on (λ file. Unit {0}) count old mid new left.source judged.none.source;
              known = first-none count old mid new e (thing_at (stated_blob n size) place) (thing_in e (item.Blob b)) (things_at rest places) same left.known left.source.asks.same.held judged.none;
              clouds_sum = omega (arith, first, clouds);
              blobs_sum = omega (arith, second, blobs);
              records_sum = omega (arith, third, records);
            };
          };
      refuses = λ found new lost. first-refused count old mid new e (thing_at (stated_blob n size) place) (thing_in e (item.Blob b)) (things_at rest places) found same left.source left.known lost;
    }

by-item : (count : ℕ) (old : SourceView) (e : Element) (i : ℕ) (summary : Summary) (mid : SourceView) (x : Item) (rest : List StatedItem) (places : List ℕ) (c b : ℕ)
    → Left count old e i summary mid rest places c b → slice_get (items_of e) i ≡ Some x → NextItem count old e i summary x mid
by-item count old e i summary mid x [] places c b left got = absurd (none_left (items_of e) i x got left.items_left)
by-item count old e i summary mid x (s ∷ rest) [] c b left got = let many = left.as_many in absurd (omega (arith, many))
by-item count old e i summary mid x (stated_cloud n records fields ∷ rest) (place ∷ places) c b left got =
    let same = first_left (items_of e) i x (item.Cloud c) (items_among (c + 1) b rest) got left.items_left in
    subst (λ (y : Item). NextItem count old e i summary y mid) (sym same) (cloud-next count old e i summary mid n records fields rest place places c b left)
by-item count old e i summary mid x (stated_blob n size ∷ rest) (place ∷ places) c b left got =
    let same = first_left (items_of e) i x (item.Blob b) (items_among c (b + 1) rest) got left.items_left in
    subst (λ (y : Item). NextItem count old e i summary y mid) (sym same) (blob-next count old e i summary mid n size rest place places c b left)

-- item i of a list that is that of the tree
pub next-item : (count : ℕ) (old : SourceView) (e : Element) (i : ℕ) (summary : Summary) (mid : SourceView) (xs : List Item) (d : Item) → Walked count old e i summary mid → xs ≡ items_of e → i < length xs → NextItem count old e i summary (get_or xs i d) mid
next-item count old e i summary mid xs d walked same below =
    by-item count old e i summary mid (get_or xs i d) walked.rest walked.places walked.clouds walked.blobs walked.left
    (subst (λ (ys : List Item). slice_get ys i ≡ Some (get_or xs i d)) same (slice_get-get_or xs i d below))

-- ---- the first item, and the end

pub begins : (count : ℕ) (view : SourceView) (nodes : List RawNode) (e : Element) → AreNodes nodes → nodes ≡ preorder e → typed_fault (shape_of e) ≡ None → Walked count view e 0 (record { clouds = 0; blobs = 0; records = 0 }) view
begins count view nodes e are same typed =
    let size : length (preorder e) ≤ 2 ^ 20 = subst (λ (all : List RawNode). length all ≤ 2 ^ 20) (sym are.in_preorder ∙ same) are.is_lawful.not_large in
    record {
      rest = stated_items (shape_of e);
      places = places_in e;
      clouds = 0;
      blobs = 0;
      left = record {
        items_left = refl;
        clouds_left = refl;
        blobs_left = refl;
        fields_left = refl;
        as_many = sym (length-stated_items e);
        sound = subst (λ (n : ℕ). AllByRecursion (IsSoundItem n) (stated_items (shape_of e))) (node_count-shape_of e) (sound_items e typed);
        few = are-few e typed size;
        source = asks_where_none (λ file. Unit {0}) count view;
        known = all view.held;
        clouds_sum = omega arith;
        blobs_sum = omega arith;
        records_sum = omega arith;
      };
    }
  where
    all : (held : Option (List ℕ)) → IfSome held (λ file. things_fault file (things_of e) ≡ things_fault file (things_of e))
    all None = tt
    all (Some file) = refl

by-rest : (count : ℕ) (old : SourceView) (e : Element) (i : ℕ) (summary : Summary) (new : SourceView) (rest : List StatedItem) (places : List ℕ) (c b : ℕ)
    → Left count old e i summary new rest places c b → drop i (items_of e) ≡ [] → JudgesThings count old e summary new
by-rest count old e i summary new [] places c b left over =
    let clouds = left.clouds_sum in
    let blobs = left.blobs_sum in
    let records = left.records_sum in
    record {
      none = record { source = left.source; sound = left.known };
      counts = record { clouds = omega (arith, clouds); blobs = omega (arith, blobs); records = omega (arith, records) };
    }
by-rest count old e i summary new (stated_cloud n records fields ∷ rest) places c b left over = let none = sym left.items_left ∙ over in absurd cc
by-rest count old e i summary new (stated_blob n size ∷ rest) places c b left over = let none = sym left.items_left ∙ over in absurd cc

pub ends : (count : ℕ) (old : SourceView) (e : Element) (i : ℕ) (summary : Summary) (new : SourceView) (xs : List Item) → Walked count old e i summary new → xs ≡ items_of e → length xs ≤ i → JudgesThings count old e summary new
ends count old e i summary new xs walked same past =
    by-rest count old e i summary new walked.rest walked.places walked.clouds walked.blobs walked.left
    (subst (λ (ys : List Item). drop i ys ≡ []) same (drop_of_length-le xs past))
