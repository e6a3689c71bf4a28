-- Files by their names: what a scan of the list finds, and what one more file does.
use Rattle.std.proofs.Common.{◌≡◌, ℕ, ◌+◌, ◌<◌, ◌≤◌, true, false, cond, IfSome, IsNone, List, [], ◌∷◌, ◌++◌, length, drop, get_or, Option, Some, None, refl, sym, ap, ◌∙◌, arith}
use Rattle.std.specs.Ordering.{nat_cmp}
use Rattle.std.specs.Cmp.Lexicographic.{slice_cmp, nat_list_cmp_total}
use Rattle.std.specs.FinMap.{find, get, insert, from_entries, get-from_entries, from_entries_push, slice_cmp-IsAntisymmetric, nat_cmp-IsAntisymmetric}
use Rattle.std.specs.List.{slice_get}
use Rattle.std.specs.Option.{option_map}
use Rattle.std.specs.Str.{bytes_eq}
use Rattle.std.specs.String.{string_bytes}
use Rattle.std.proofs.lemmas.List.{at_drop_more, at_drop_all, map_push, length-append, get_or_append_left}
use Rattle.std.proofs.lemmas.Map.Text.{is_eq-slice_cmp}
use Rattle.std.proofs.lemmas.Option.{slice_get-get_or}
use Rattle.e57_base.specs.declared.files.NamedFile.{NamedFile}
use Rattle.e57_base.specs.Files.{entries_of, stock_of, bytes_at}
use Rattle.e57_base.specs.MemSource.{SourceState, with_file}
use Rattle.e57_base.specs.Source.{Stock}

-- the bytes of the first file of this name
abbrev pub found_in : List ℕ → List NamedFile → Option (List ℕ)
found_in name files = find (slice_cmp nat_cmp) name (entries_of files)

pub get-stock_of : (files : List NamedFile) (name : List ℕ) → get (stock_of files) name ≡ found_in name files
get-stock_of files name = get-from_entries nat_list_cmp_total (entries_of files) name

found_from : (files : List NamedFile) (name : List ℕ) (i : ℕ) (file : NamedFile) → i < length files → found_in name (drop i files) ≡ cond (bytes_eq name (string_bytes (get_or files i file).name)) (Some (get_or files i file).bytes.items) (found_in name (drop (i + 1) files))
found_from files name i file h =
    at_drop_more (found_in name) files i file h
    ∙ ap (λ b. cond b (Some (get_or files i file).bytes.items) (found_in name (drop (i + 1) files))) (is_eq-slice_cmp name (string_bytes (get_or files i file).name))

found_at : (files : List NamedFile) (name : List ℕ) (i : ℕ) (file : NamedFile) → i < length files → file ≡ get_or files i file → found_in name (drop i files) ≡ cond (bytes_eq name (string_bytes file.name)) (Some file.bytes.items) (found_in name (drop (i + 1) files))
found_at files name i file h is = found_from files name i file h ∙ ap (λ (f : NamedFile). cond (bytes_eq name (string_bytes f.name)) (Some f.bytes.items) (found_in name (drop (i + 1) files))) (sym is)

-- the file at place i has the name, and none before it
pub found_here : (files : List NamedFile) (name : List ℕ) (i : ℕ) (file : NamedFile) → i < length files → file ≡ get_or files i file → found_in name (drop i files) ≡ found_in name files → bytes_eq name (string_bytes file.name) ≡ true → bytes_at files (Some i) ≡ get (stock_of files) name
found_here files name i file h is so_far same =
    ap (option_map (λ (f : NamedFile). f.bytes.items)) (slice_get-get_or files i file h ∙ ap Some (sym is))
    ∙ sym (found_at files name i file h is ∙ ap (λ b. cond b (Some file.bytes.items) (found_in name (drop (i + 1) files))) same)
    ∙ so_far ∙ sym (get-stock_of files name)

-- the file at place i doesn't have the name
pub found_later : (files : List NamedFile) (name : List ℕ) (i : ℕ) (file : NamedFile) → i < length files → file ≡ get_or files i file → found_in name (drop i files) ≡ found_in name files → bytes_eq name (string_bytes file.name) ≡ false → found_in name (drop (i + 1) files) ≡ found_in name files
found_later files name i file h is so_far other =
    sym (found_at files name i file h is ∙ ap (λ b. cond b (Some file.bytes.items) (found_in name (drop (i + 1) files))) other) ∙ so_far

-- no file has the name
pub found_nowhere : (files : List NamedFile) (name : List ℕ) (i : ℕ) → length files ≤ i → found_in name (drop i files) ≡ found_in name files → None ≡ get (stock_of files) name
found_nowhere files name i h so_far = sym (at_drop_all (found_in name) files i h) ∙ so_far ∙ sym (get-stock_of files name)

none_from : (o : Option (List ℕ)) → IsNone o → o ≡ None
none_from None e = refl
none_from (Some x) e = cc

-- the stock with one more file, of a new name
pub stock_push : (files new : List NamedFile) (file : NamedFile) (name : List ℕ) (bytes : List ℕ) → new ≡ files ++ file ∷ [] → string_bytes file.name ≡ name → file.bytes.items ≡ bytes → IsNone (get (stock_of files) name) → stock_of new ≡ insert (stock_of files) name bytes
stock_push files new file name bytes is of_name has absent =
    ap stock_of is
    ∙ ap (from_entries {R = slice_cmp nat_cmp}) (map_push (λ (f : NamedFile). (string_bytes f.name, f.bytes.items)) files file)
    ∙ ap (λ (e : List ℕ × List ℕ). from_entries {R = slice_cmp nat_cmp} (entries_of files ++ e ∷ [])) (λ i. (of_name i, has i))
    ∙ from_entries_push nat_list_cmp_total (slice_cmp-IsAntisymmetric nat_cmp-IsAntisymmetric) (entries_of files) name bytes (sym (get-stock_of files name) ∙ none_from _ absent)

slice_get_push : (files : List NamedFile) (file : NamedFile) (place : ℕ) → place < length files → slice_get (files ++ file ∷ []) place ≡ slice_get files place
slice_get_push files file place h =
    slice_get-get_or (files ++ file ∷ []) place file (omega (arith, length-append files (file ∷ []), h))
    ∙ ap Some (get_or_append_left files (file ∷ []) file place h) ∙ sym (slice_get-get_or files place file h)

-- the open file stays open
pub bytes_at_push : (files new : List NamedFile) (file : NamedFile) (current : Option ℕ) → new ≡ files ++ file ∷ [] → IfSome current (λ place. place < length files) → bytes_at new current ≡ bytes_at files current
bytes_at_push files new file None is h = refl
bytes_at_push files new file (Some place) is h = ap (λ (fs : List NamedFile). bytes_at fs (Some place)) is ∙ ap (option_map (λ (f : NamedFile). f.bytes.items)) (slice_get_push files file place h)

-- only the stock differs
pub with_file_state : (source : SourceState) (files : Stock) (held : Option (List ℕ)) (name bytes : List ℕ) → files ≡ insert source.files name bytes → held ≡ source.held → record source { files = files; held = held } ≡ with_file name bytes source
with_file_state source files held name bytes f h = λ i. record source { files = f i; held = h i }
