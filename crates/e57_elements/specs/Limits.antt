-- The numbers of the format that bound a text and its tree.
use Rattle.std.specs.Prelude.{ℕ, ◌^◌}

-- how many bytes a text has at most
abbrev pub max_text : ℕ
max_text = 2 ^ 26

-- how many attributes an element has at most
abbrev pub max_attrs : ℕ
max_attrs = 64

-- how many elements are open within one another at most; the root has depth 1
abbrev pub max_depth : ℕ
max_depth = 64

-- how many elements a tree has at most
abbrev pub max_elements : ℕ
max_elements = 2 ^ 20
