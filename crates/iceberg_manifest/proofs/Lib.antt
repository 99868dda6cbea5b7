pub mod ContainerLaws
pub mod KindLaws
pub mod SplitLaws
