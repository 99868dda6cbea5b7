pub mod ScanLaws
pub mod BlockLaws
pub mod ReadLaws
pub mod FaultLaws
pub mod EndLaws
pub mod OrderLaws
pub mod CallLaws
