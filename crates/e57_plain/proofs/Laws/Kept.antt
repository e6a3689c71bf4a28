-- The content with some records and fields of one cloud is valid.
use Rattle.std.specs.Prelude.{◌≡◌, ℕ, zero, suc, ◌+◌, ◌^◌, ◌<◌, ◌≤◌, Bool, true, false, cond, List, [], ◌∷◌, length, map, get_or, replicate, codes}
use Rattle.std.specs.List.{AllByRecursion}
use Rattle.std.proofs.Common.{refl, sym, ap, subst, ◌∙◌, arith}
use Rattle.e57_elements.specs.Tree.{Element}
use Rattle.e57_layout.specs.Values.{ItemKind, Value}
use Rattle.e57_layout.specs.Items.{AreItems, AreColumns}
use Rattle.e57_nodes.specs.Shape.{shape_of, node_count}
use Rattle.e57_nodes.specs.Items.{StatedItem, stated_cloud, stated_blob, stated_items}
use Rattle.e57_nodes.specs.Places.{places_in, with_places}
use Rattle.e57_nodes.proofs.Laws.Sound.{IsSoundItem, sound_items}
use Rattle.e57_verdict.specs.Things.{Body, records_body, bytes_body}
use Rattle.e57_verdict.specs.Content.{Content}
use Rattle.e57_plain.specs.Valid.{kinds_in, AreBodies, items_in, IsValid}
use Rattle.e57_plain.specs.Pruned.{keeps_some, with_cloud}
use Rattle.e57_plain.specs.Kept.{Selection, passes, passing, passing_count, chosen, kept_columns, kept_count, cloud_columns, with_columns, cloud_fields, Selects, kept}
use Rattle.e57_plain.proofs.Laws.Typing.{length-kinds}
use Rattle.e57_plain.proofs.Laws.Typed.{whole-typed, typed-whole}
use Rattle.e57_plain.proofs.Laws.Forms.{Form, cloud_form, blob_form, form_of, forms_at, stated-forms, AreFormBodies, bodies-forms, forms-bodies}
use Rattle.e57_plain.proofs.Laws.Changed.{changed, form_kinds, KeepsOf, IsChanged, with_cloud-changed}

-- ---- records that pass

passing-length : (pass : ℕ → Bool) (i : ℕ) (column : List Value) → length (passing pass i column) ≡ passing_count pass i (length column)
passing-length pass i [] = refl
passing-length pass i (value ∷ column) = by_test (pass i) (passing-length pass (i + 1) column) where
  by_test : (b : Bool) → length (passing pass (i + 1) column) ≡ passing_count pass (i + 1) (length column)
      → length (cond b (value ∷ passing pass (i + 1) column) (passing pass (i + 1) column)) ≡ cond b 1 0 + passing_count pass (i + 1) (length column)
  by_test true later = omega arith
  by_test false later = omega arith

passing-few : (pass : ℕ → Bool) (i n : ℕ) → passing_count pass i n ≤ n
passing-few pass i zero = omega arith
passing-few pass i (suc n) = by_test (pass i) (passing-few pass (i + 1) n) where
  by_test : (b : Bool) → passing_count pass (i + 1) n ≤ n → cond b 1 0 + passing_count pass (i + 1) n ≤ suc n
  by_test true later = omega arith
  by_test false later = omega arith

passing-items : (kind : ItemKind) (pass : ℕ → Bool) (i : ℕ) (column : List Value) → AreItems kind column → AreItems kind (passing pass i column)
passing-items kind pass i [] are = tt
passing-items kind pass i (value ∷ column) are = by_test (pass i) (passing-items kind pass (i + 1) column are.1) where
  by_test : (b : Bool) → AreItems kind (passing pass (i + 1) column) → AreItems kind (cond b (value ∷ passing pass (i + 1) column) (passing pass (i + 1) column))
  by_test true later = (are.0, later)
  by_test false later = later

columns-kept : (keep : List Bool) (pass : ℕ → Bool) (kinds : List ItemKind) (count : ℕ) (columns : List (List Value)) → AreColumns kinds count columns
    → AreColumns (chosen keep kinds) (passing_count pass 0 count) (chosen keep (map (passing pass 0) columns))
columns-kept [] pass kinds count columns are = tt
columns-kept (b ∷ keep) pass [] count [] are = tt
columns-kept (b ∷ keep) pass [] count (column ∷ columns) are = absurd are
columns-kept (b ∷ keep) pass (kind ∷ kinds) count [] are = absurd are
columns-kept (b ∷ keep) pass (kind ∷ kinds) count (column ∷ columns) are = by_flag b (columns-kept keep pass kinds count columns are.2) where
  by_flag : (c : Bool) → AreColumns (chosen keep kinds) (passing_count pass 0 count) (chosen keep (map (passing pass 0) columns))
      → AreColumns (cond c (kind ∷ chosen keep kinds) (chosen keep kinds)) (passing_count pass 0 count) (cond c (passing pass 0 column ∷ chosen keep (map (passing pass 0) columns)) (chosen keep (map (passing pass 0) columns)))
  by_flag true later = (passing-length pass 0 column ∙ ap (passing_count pass 0) are.0, passing-items kind pass 0 column are.1, later)
  by_flag false later = later

-- with as many records as the first column has
first-kept : (keep : List Bool) (pass : ℕ → Bool) (kinds : List ItemKind) (count : ℕ) (columns : List (List Value)) → AreColumns kinds count columns
    → AreColumns (chosen keep kinds) (passing_count pass 0 (length (get_or columns 0 []))) (chosen keep (map (passing pass 0) columns))
first-kept [] pass kinds count columns are = tt
first-kept (b ∷ keep) pass [] count [] are = tt
first-kept (b ∷ keep) pass [] count (column ∷ columns) are = absurd are
first-kept (b ∷ keep) pass (kind ∷ kinds) count [] are = absurd are
first-kept (b ∷ keep) pass (kind ∷ kinds) count (column ∷ columns) are =
    subst (λ n. AreColumns (chosen (b ∷ keep) (kind ∷ kinds)) (passing_count pass 0 n) (chosen (b ∷ keep) (map (passing pass 0) (column ∷ columns)))) (sym are.0)
    (columns-kept (b ∷ keep) pass (kind ∷ kinds) count (column ∷ columns) are)

-- ---- bodies

changed-bodies : (k : ℕ) (keep : List Bool) (count : ℕ) (columns : List (List Value)) (forms : List Form) (bodies : List Body)
    → ((old : ℕ) (kinds : List ItemKind) → AreColumns kinds old (cloud_columns k bodies) → AreColumns (chosen keep kinds) count columns)
    → AreFormBodies forms bodies → AreFormBodies (changed k keep count forms) (with_columns k columns bodies)
changed-bodies k keep count columns [] [] keeps are = tt
changed-bodies k keep count columns [] (body ∷ bodies) keeps are = absurd are
changed-bodies zero keep count columns (cloud_form old kinds ∷ forms) [] keeps are = absurd are
changed-bodies (suc k) keep count columns (cloud_form old kinds ∷ forms) [] keeps are = absurd are
changed-bodies k keep count columns (blob_form size ∷ forms) [] keeps are = absurd are
changed-bodies k keep count columns (blob_form size ∷ forms) (records_body was ∷ bodies) keeps are = absurd are.0
changed-bodies k keep count columns (blob_form size ∷ forms) (bytes_body bytes ∷ bodies) keeps are = (are.0, changed-bodies k keep count columns forms bodies keeps are.1)
changed-bodies zero keep count columns (cloud_form old kinds ∷ forms) (bytes_body bytes ∷ bodies) keeps are = absurd are.0
changed-bodies (suc k) keep count columns (cloud_form old kinds ∷ forms) (bytes_body bytes ∷ bodies) keeps are = absurd are.0
changed-bodies zero keep count columns (cloud_form old kinds ∷ forms) (records_body was ∷ bodies) keeps are = (keeps old kinds are.0, are.1)
changed-bodies (suc k) keep count columns (cloud_form old kinds ∷ forms) (records_body was ∷ bodies) keeps are = (are.0, changed-bodies k keep count columns forms bodies keeps are.1)

-- no more records than a cloud may have
few-records : (nodes k : ℕ) (items : List StatedItem) (bodies : List Body) → AllByRecursion (IsSoundItem nodes) items → AreBodies items bodies → length (get_or (cloud_columns k bodies) 0 []) ≤ 2 ^ 40
few-records nodes k [] [] sound are = omega arith
few-records nodes k [] (body ∷ bodies) sound are = absurd are
few-records nodes k (item ∷ items) [] sound are = absurd are
few-records nodes k (stated_blob n size ∷ items) (records_body columns ∷ bodies) sound are = absurd are.0
few-records nodes k (stated_blob n size ∷ items) (bytes_body bytes ∷ bodies) sound are = few-records nodes k items bodies sound.1 are.1
few-records nodes k (stated_cloud n count fields ∷ items) (bytes_body bytes ∷ bodies) sound are = absurd are.0
few-records nodes (suc k) (stated_cloud n count fields ∷ items) (records_body columns ∷ bodies) sound are = few-records nodes k items bodies sound.1 are.1
few-records nodes zero (stated_cloud n count fields ∷ items) (records_body columns ∷ bodies) sound are = first (kinds_in fields) columns sound.0.few_records are.0 where
  first : (kinds : List ItemKind) (cs : List (List Value)) → count ≤ 2 ^ 40 → AreColumns kinds count cs → length (get_or cs 0 []) ≤ 2 ^ 40
  first [] [] few are = omega arith
  first [] (c ∷ cs) few are = absurd are
  first (kind ∷ kinds) [] few are = absurd are
  first (kind ∷ kinds) (c ∷ cs) few are = let size : length c ≡ count = are.0 in omega arith

-- ---- what is kept

chosen-some : {X : Type 0} (keep : List Bool) (xs : List X) → length keep ≡ length xs → keeps_some keep ≡ true → 0 < length (chosen keep xs)
chosen-some [] xs same some = absurd (cc)
chosen-some (b ∷ keep) [] same some = absurd (omega arith)
chosen-some (true ∷ keep) (x ∷ xs) same some = omega arith
chosen-some (false ∷ keep) (x ∷ xs) same some = chosen-some keep xs (omega arith) some

kinds-are : (k : ℕ) (items : List StatedItem) → form_kinds k (map form_of items) ≡ kinds_in (cloud_fields k items)
kinds-are k [] = refl
kinds-are k (stated_blob n size ∷ items) = kinds-are k items
kinds-are zero (stated_cloud n count fields ∷ items) = refl
kinds-are (suc k) (stated_cloud n count fields ∷ items) = kinds-are k items

pub keeps-of : (selection : Selection) (content : Content) → Selects selection content → KeepsOf selection.cloud selection.fields (forms_at (shape_of content.tree))
keeps-of selection content selects =
    let kinds = ap (form_kinds selection.cloud) (sym (stated-forms (shape_of content.tree))) ∙ kinds-are selection.cloud (items_in content) in
    subst (λ (ks : List ItemKind). 0 < length (chosen selection.fields ks)) (sym kinds)
    (chosen-some selection.fields (kinds_in (cloud_fields selection.cloud (items_in content))) (selects.fields ∙ sym (length-kinds (cloud_fields selection.cloud (items_in content)))) selects.some)

-- ---- the whole

module _ (selection : Selection) (content : Content) where
  abbrev count_of : ℕ
  count_of = kept_count selection (cloud_columns selection.cloud content.bodies)

  abbrev tree_of : Element
  tree_of = with_cloud selection.cloud selection.fields count_of content.tree

  abbrev bodies_of : List Body
  bodies_of = with_columns selection.cloud (kept_columns selection (cloud_columns selection.cloud content.bodies)) content.bodies

  tree-changed : IsValid content → Selects selection content → IsChanged selection.cloud selection.fields count_of true content.tree tree_of
  tree-changed valid selects =
      let many = few-records (node_count (shape_of content.tree)) selection.cloud (items_in content) content.bodies (sound_items content.tree valid.typed) valid.bodies in
      let few = passing-few (passes selection (cloud_columns selection.cloud content.bodies)) 0 (length (get_or (cloud_columns selection.cloud content.bodies) 0 [])) in
      with_cloud-changed selection.cloud selection.fields count_of true content.tree (omega arith) (whole-typed (shape_of content.tree) valid.typed) (keeps-of selection content selects) valid.is_lawful.each

  bodies-changed : IsValid content → IsChanged selection.cloud selection.fields count_of true content.tree tree_of → AreBodies (stated_items (shape_of tree_of)) bodies_of
  bodies-changed valid is =
      let columns = cloud_columns selection.cloud content.bodies in
      let old : AreFormBodies (forms_at (shape_of content.tree)) content.bodies = subst (λ (forms : List Form). AreFormBodies forms content.bodies) (stated-forms (shape_of content.tree)) (bodies-forms (items_in content) content.bodies valid.bodies) in
      let new = changed-bodies selection.cloud selection.fields count_of (kept_columns selection columns) (forms_at (shape_of content.tree)) content.bodies (λ was kinds are. first-kept selection.fields (passes selection columns) kinds was columns are) old in
      forms-bodies (stated_items (shape_of tree_of)) bodies_of (subst (λ (forms : List Form). AreFormBodies forms bodies_of) (sym (stated-forms (shape_of tree_of) ∙ is.forms)) new)

  -- What is kept of a valid content is valid.
  pub kept-valid : IsValid content → Selects selection content → IsValid (kept selection content)
  unfolding kept
  kept-valid valid selects =
      let is = tree-changed valid selects in
      let lawful = valid.is_lawful in
      record {
        is_lawful = record {
          each = is.less.each;
          not_deep = omega (arith, is.less.depth, lawful.not_deep);
          not_large = omega (arith, is.less.size, lawful.not_large);
        };
        typed = typed-whole (shape_of tree_of) is.typed;
        no_places =
            ap (λ (qs : List ℕ). with_places (replicate (length qs) (codes "0")) tree_of) is.places
            ∙ is.still (replicate (length (places_in content.tree)) (codes "0")) valid.no_places;
        bodies = bodies-changed valid is;
      }
