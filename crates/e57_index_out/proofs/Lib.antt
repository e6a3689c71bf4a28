mod Made
mod Runs
mod LevelLaws
mod Pieces
mod PacketSteps
mod LevelSteps
