-- The text of the tree of a content of two numbers.
use Rattle.std.specs.Prelude.{ℕ, List, ◌++◌, codes}

-- what stands before the number of records
abbrev pub text_front : List ℕ
text_front =
    codes "<?xml version=\"1.0\" encoding=\"UTF-8\"?>"
    ++ codes "\n<e57Root type=\"Structure\" xmlns=\"http://www.astm.org/COMMIT/E57/2010-e57-v1.0\">"
    ++ codes "<data3D type=\"Vector\">"
    ++ codes "<vectorChild type=\"Structure\">"
    ++ codes "<points type=\"CompressedVector\" fileOffset=\"0\" recordCount=\""

-- what stands behind it
abbrev pub text_behind : List ℕ
text_behind =
    codes "\">"
    ++ codes "<prototype type=\"Structure\">"
    ++ codes "<cartesianX type=\"ScaledInteger\" minimum=\"0\" maximum=\"1048575\" scale=\"0.001\" offset=\"0\"/>"
    ++ codes "<cartesianY type=\"ScaledInteger\" minimum=\"0\" maximum=\"1048575\" scale=\"0.001\" offset=\"0\"/>"
    ++ codes "<intensity type=\"Integer\" minimum=\"0\" maximum=\"255\"/>"
    ++ codes "<rowIndex type=\"Integer\" minimum=\"0\" maximum=\"0\"/>"
    ++ codes "<cartesianZ type=\"Float\" precision=\"single\"/>"
    ++ codes "<tag type=\"String\"/>"
    ++ codes "</prototype>"
    ++ codes "</points>"
    ++ codes "</vectorChild>"
    ++ codes "</data3D>"
    ++ codes "</e57Root>"
