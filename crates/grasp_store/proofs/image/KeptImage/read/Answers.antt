use Rattle.std.proofs.Common.{arith}
use Rattle.grasp_store.proofs.Entries.{few_of_good, first_valid, later_valid, image_from}
use Rattle.grasp_store.proofs.image.KeptImage.read.Goals as goal

pub read_entries-requires-clause-few : goal.read_entries-requires-clause-few
read_entries-requires-clause-few c = omega (arith, c.free_count-count.ensures.is, few_of_good c.args.bytes.now c.requires.good)

pub read_entries-requires-clause-within : goal.read_entries-requires-clause-within
read_entries-requires-clause-within c = omega (arith, c.free_count-count.ensures.is, few_of_good c.args.bytes.now c.requires.good, c.requires.size)

pub read_entries-requires-clause-valid : goal.read_entries-requires-clause-valid
read_entries-requires-clause-valid c = first_valid c.args.bytes.now c.free_count-count.result c.free_count-count.ensures.is c.requires.good

pub read_entries-requires-2-clause-few : goal.read_entries-requires-2-clause-few
read_entries-requires-2-clause-few c = omega (arith, c.free_count-count.ensures.is, c.doubtful_count.ensures.is, few_of_good c.args.bytes.now c.requires.good)

pub read_entries-requires-2-clause-within : goal.read_entries-requires-2-clause-within
read_entries-requires-2-clause-within c = omega (arith, c.free_count-count.ensures.is, c.doubtful_count.ensures.is, few_of_good c.args.bytes.now c.requires.good, c.requires.size)

pub read_entries-requires-2-clause-valid : goal.read_entries-requires-2-clause-valid
read_entries-requires-2-clause-valid c = later_valid c.args.bytes.now c.free_count-count.result c.doubtful_count.result c.free_count-count.ensures.is c.doubtful_count.ensures.is c.requires.good

pub returns : goal.returns
returns c =
    image_from c.args.bytes.now c.free_count-count.result c.doubtful_count.result c.read_entries.new.list.items c.read_entries-2.new.list.items c.free_count-count.ensures.is c.doubtful_count.ensures.is
    c.read_entries.ensures.is c.read_entries-2.ensures.is
