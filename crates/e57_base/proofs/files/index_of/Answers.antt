use Rattle.std.proofs.Common.{◌≡◌, true, false}
use Rattle.std.specs.Str.{bytes_eq}
use Rattle.e57_base.proofs.NamedFiles.{found_here, found_later, found_nowhere}
use Rattle.e57_base.proofs.files.index_of.Goals as goal

pub returns-then-eq-clause-found : goal.returns-then-eq-clause-found
returns-then-eq-clause-found c =
    let file = c.index-files-place.result in
    let same : bytes_eq c.args.name.now file.name.bytes.items ≡ true = cc in
    found_here c.args.files.now c.args.name.now c.loop-place.place file c.loop-place-test.true c.index-files-place.is c.loop-place.invariant same

pub loop-place-preserved : goal.loop-place-preserved
loop-place-preserved c =
    let file = c.index-files-place.result in
    let other : bytes_eq c.args.name.now file.name.bytes.items ≡ false = cc in
    found_later c.args.files.now c.args.name.now c.loop-place.place file c.loop-place-test.true c.index-files-place.is c.loop-place.invariant other

pub returns-clause-found : goal.returns-clause-found
returns-clause-found c = found_nowhere c.args.files.now c.args.name.now c.loop-place.place c.loop-place-test.false c.loop-place.invariant
