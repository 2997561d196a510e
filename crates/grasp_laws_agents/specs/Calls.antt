-- What the answers of an agent's calls mean: the laws of a node's calls, as one.
use Rattle.grasp_laws_node.specs.Means.{StepMeans, EndMeans, PollMeans, ListenMeans}
use Rattle.grasp_laws_node.specs.MeansRequests.{RequestMeans}

pub record CallsMean : Type 0 where
  pub steps : StepMeans
  pub ends : EndMeans
  pub polls : PollMeans
  pub listens : ListenMeans
  pub requests : RequestMeans
