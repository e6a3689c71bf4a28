-- An accepted file in memory: opened, checked, written anew and read.
use Rattle.std.specs.Prelude.{◌≡◌, ℕ, true, List, [], ◌∷◌}
use Rattle.e57_base.specs.BytesSource.{BytesState}
use Rattle.e57_base.specs.declared.fault.AskFault.TheVariants as of_ask
use Rattle.e57_base.specs.declared.fault.RunFault.{RunFault}
use Rattle.e57_base.specs.declared.fault.RunFault.TheVariants.{Out, Memory, Ask}
use Rattle.e57_layout.specs.Values.{Value}
use Rattle.e57_verdict.specs.Content.{Content, IsContent}
use Rattle.e57_verdict.specs.Things.{records_body}
use Rattle.e57_plain.specs.Written.{IsWritable, plain}

-- The file is accepted.
abbrev pub IsAccepted : List ℕ → Type 0
IsAccepted file = (content : Content) × IsContent file content

-- The file is accepted, and its content is one cloud, with these columns.
pub record HasColumns (file : List ℕ) (columns : List (List Value)) : Type 0 where
  pub content : Content
  pub of_file : IsContent file content
  pub one : content.bodies ≡ records_body columns ∷ []

-- The source's file is open, and has these bytes.
pub record HasOpen (file : List ℕ) (source : BytesState) : Type 0 where
  pub is_open : source.is_open ≡ true
  pub same_bytes : source.bytes ≡ file

-- The file is the written form of this content, with chunks of so many records.
pub record IsForm (chunk : ℕ) (content : Content) (file : List ℕ) : Type 0 where
  pub writable : IsWritable chunk content
  pub is_plain : file ≡ plain chunk content

-- memory is wanted; or the room that a target in memory has reserved; or the file would pass the limits of the format
abbrev pub IsWant : RunFault → Type 0
IsWant Memory = Unit {0}
IsWant Out = Unit {0}
IsWant (Ask of_ask.Large) = Unit {0}
IsWant fault = ⊥
