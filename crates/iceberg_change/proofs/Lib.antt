mod BehindLaws
mod BesideLaws
mod ColumnLaws
mod HeldLaws
mod JoiningLaws
mod OwnLaws
mod StepLaws
