use Rattle.std.proofs.Common.{arith}
use Rattle.e57_copy.proofs.Testing.{field_alike, fields_many, fits_end, fits_on, run_outside}
use Rattle.e57_copy.proofs.limits.test_run.Goals as goal

pub loop-j-init : goal.loop-j-init
loop-j-init c = λ all. all

pub bounds-fields-j : goal.bounds-fields-j
bounds-fields-j c =
    let many = fields_many c.args.fields.now c.args.blocks.now c.requires.alike in
    let below = c.loop-j-test.true in
    omega (arith, many, below)

pub test_field-requires-clause-alike : goal.test_field-requires-clause-alike
test_field-requires-clause-alike c =
    field_alike c.args.fields.now c.args.blocks.now c.requires.alike c.loop-j.j c.index-fields-j.result c.index-blocks-j.result c.loop-j-test.true c.index-blocks-j.is c.index-fields-j.is

pub returns-in-Err : goal.returns-in-Err
returns-in-Err c =
    run_outside c.args.fields.now c.args.blocks.now c.requires.alike c.loop-j.j c.index-fields-j.result c.index-blocks-j.result c.loop-j-test.true c.index-blocks-j.is c.index-fields-j.is c.args.i c.args.n c.in-Err.found c.in-Err.ensures

pub loop-j-preserved : goal.loop-j-preserved
loop-j-preserved c = λ rest.
    c.loop-j.invariant
    (fits_on c.args.fields.now c.args.blocks.now c.requires.alike c.loop-j.j c.index-fields-j.result c.index-blocks-j.result c.loop-j-test.true c.index-blocks-j.is c.index-fields-j.is c.args.i c.args.n c.in_default.ensures rest)

pub returns : goal.returns
returns c =
    let past = c.loop-j-test.false in
    c.loop-j.invariant (fits_end c.args.fields.now c.args.blocks.now c.requires.alike c.args.i c.args.n c.loop-j.j (omega (arith, past)))
