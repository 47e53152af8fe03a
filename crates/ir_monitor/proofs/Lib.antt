mod Told
mod Joined
mod LastSteps
mod Arms
mod Unknown
