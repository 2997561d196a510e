-- What isn't read of a part, told of the whole table.
use Rattle.std.proofs.Common.{◌≡◌, inl, inr, List, [], ◌∷◌, Some, Err, sym, subst}
use Rattle.toml.specs.Data.{Members}
use Rattle.grasp_config.specs.Config.{IsFirstBad}
use Rattle.grasp_config.specs.Faults.{IfBadConfig}
use Rattle.grasp_config.specs.NodePart.{node_part, serve_part}
use Rattle.grasp_config.specs.Serve.{FirstOf, IsBadServeKey, serve_order, HasFloods, HasBadTable, IsFirstBadServe}
use Rattle.grasp_config.specs.ServeFaults.{IfBadServe, serve_fault_of}
use Rattle.grasp_config.specs.declared.config.NodeConfig.{NodeConfig}
use Rattle.grasp_config.specs.declared.fault.ConfigFault.{ConfigFault}
use Rattle.grasp_config.specs.declared.fault.ConfigFault.TheVariants as node_fault
use Rattle.grasp_config.specs.declared.serve.ServeConfig.{ServeConfig}
use Rattle.grasp_config.specs.declared.serve_fault.ServeKey.{ServeKey}
use Rattle.grasp_config.specs.declared.serve_fault.ServeKey.TheVariants.{Node, Floods, Serve}
use Rattle.grasp_config.specs.declared.serve_fault.ServeFault.{ServeFault}
use Rattle.grasp_config.specs.declared.serve_fault.ServeFault.TheVariants.{BadServe, OutOfMemory}

-- the first bad key is bad
first_is_bad : {K : Type 0} (IsBad : K → Type 0) (keys : List K) (key : K) → FirstOf IsBad keys key → IsBad key
first_is_bad IsBad [] key bad = absurd bad
first_is_bad IsBad (first ∷ others) key (inl bad) = subst IsBad (sym bad.1) bad.0
first_is_bad IsBad (first ∷ others) key (inr more) = first_is_bad IsBad others key more.1

-- the first bad key of the table `serve` is that of the whole
pub bad_table : (whole : Members) (key : ServeKey) → HasBadTable whole key → IsFirstBadServe whole key
bad_table whole (Node key) has = absurd (first_is_bad (IsBadServeKey has.node.listen has.table) serve_order (Node key) has.first)
bad_table whole Floods has = absurd (first_is_bad (IsBadServeKey has.node.listen has.table) serve_order Floods has.first)
bad_table whole Serve has = absurd (first_is_bad (IsBadServeKey has.node.listen has.table) serve_order Serve has.first)
bad_table whole _ has = has

pub told_table : (A : Type 0) (whole : Members) (node : NodeConfig) (table : Members) (e : ServeFault) → HasFloods whole node → serve_part whole ≡ Some table
    → IfBadServe {A = A} (Err e) (FirstOf (IsBadServeKey node.listen table) serve_order) → IfBadServe {A = ServeConfig} (Err e) (IsFirstBadServe whole)
told_table A whole node table (BadServe key) floods there bad = bad_table whole key (record { node = node; floods = floods; table = table; there = there; first = bad })
told_table A whole node table OutOfMemory floods there bad = tt

-- and that of the node's own part is that of the whole
pub told_node : (A : Type 0) (whole part : Members) (fault : ConfigFault) → part ≡ node_part whole → IfBadConfig {A = A} (Err fault) (IsFirstBad part)
    → IfBadServe {A = ServeConfig} (Err (serve_fault_of fault)) (IsFirstBadServe whole)
told_node A whole part (node_fault.BadConfig key) is bad = subst (λ (t : Members). IsFirstBad t key) is bad
told_node A whole part node_fault.OutOfMemory is bad = tt
