use Rattle.e57_tool.proofs.commands.perform.Goals as goal

pub returns-in-Blob : goal.returns-in-Blob
returns-in-Blob g c = rw c.in-Blob.is c.show_blob.ensures

pub returns-in-Extract : goal.returns-in-Extract
returns-in-Extract g c = rw c.in-Extract.is c.show_rows.ensures
