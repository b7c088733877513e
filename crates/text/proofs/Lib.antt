pub mod LinesMore
mod PartsMore
mod ReadMore
mod Shown
