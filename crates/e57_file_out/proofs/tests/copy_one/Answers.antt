use Rattle.std.proofs.Common.{◌*◌, ◌/◌, sym, subst}
use Rattle.e57_file.specs.Blob.{LiesIn}
use Rattle.e57_file_out.proofs.tests.copy_one.Goals as goal

pub copy_blob-requires-clause-lies : goal.copy_blob-requires-clause-lies
copy_blob-requires-clause-lies g c e same blob there =
    let opened = c.in-Ok.ensures.blob e same blob there in
    subst (λ n. LiesIn (n / 1024 * 1020) blob) (sym c.open_blob.ensures.length) opened.lies
