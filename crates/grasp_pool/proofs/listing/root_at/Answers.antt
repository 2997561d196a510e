use Rattle.std.proofs.Common.{◌∙◌, sym}
use Rattle.std.proofs.lemmas.List.{get_or-map}
use Rattle.grasp_pool.specs.Roots.{block_of}
use Rattle.grasp_pool.proofs.Opening.{no_root}
use Rattle.grasp_pool.proofs.listing.root_at.Goals as goal

pub prefix_of-requires : goal.prefix_of-requires
prefix_of-requires c = c.requires.valid c.args.i no_root c.requires.within c.requires.within

pub returns : goal.returns
returns c = c.prefix_of.ensures ∙ sym (get_or-map block_of c.args.roots.now c.args.i no_root c.prefix_of.result c.requires.within)
