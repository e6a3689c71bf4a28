-- What `info` shows.
use Rattle.std.specs.Prelude.{◌≡◌, ℕ, List, [], ◌∷◌, ◌++◌}
use Rattle.e57_elements.specs.Tree.{Element}
use Rattle.e57_elements.specs.Spells.{Spells}
use Rattle.e57_elements.specs.Spelling.{spelling}
use Rattle.e57_file.specs.Text.{section_text, IsTextFault, is_text_kind}
use Rattle.e57_show.specs.Showing.{Shown}

-- the written spelling of the tree that the XML section spells, and a line feed
abbrev pub IsShown : List ℕ → List ℕ → Type 0
IsShown file text = (tree : Element) × Spells (section_text file) tree × (text ≡ spelling tree ++ 10 ∷ [])

-- the first fault of the section, its text included, or that text as it is shown
abbrev pub info_shown : Shown
info_shown =
    record {
      is_faulty = IsTextFault;
      is_named = is_text_kind;
      is_output = IsShown;
    }
