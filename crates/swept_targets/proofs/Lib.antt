mod DeltaLaws
mod HudiLaws
mod IcebergLaws
