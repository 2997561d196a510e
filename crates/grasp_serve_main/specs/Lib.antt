pub mod Plans
pub mod Program
